-- Texts put one after the other.
use Rattle.std.proofs.Common.{◌≡◌, ℕ, ◌+◌, List, ◌++◌, length, take, drop, sym, ap, ◌∙◌, subst, append_assoc, arith, length-append}
use Rattle.std.proofs.lemmas.List.{drop-drop}
use Rattle.output.specs.Drafts.{Put}

-- lists with the same rest have the same rest further on
further : (m k : ℕ) (xs ys : List ℕ) → drop m xs ≡ drop m ys → drop (m + k) xs ≡ drop (m + k) ys
further m k xs ys e = sym (drop-drop k m xs) ∙ ap (drop k) e ∙ drop-drop k m ys

module _ {line between after one two : List ℕ} {at m end : ℕ} where
  pub then : Put line at one m between → Put between m two end after → Put line at (one ++ two) end after
  then p q = record {
    ends = omega (arith, p.ends, q.ends, length-append one two);
    front = q.front ∙ ap (λ l. l ++ two) p.front ∙ append_assoc (take at line) one two;
    rest = q.rest ∙ subst (λ k. drop k between ≡ drop k line) (sym q.ends) (further m (length two) between line p.rest);
  }
