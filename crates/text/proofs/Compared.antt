-- `cmp` on slices of numbers answers `order`; equal texts are equal values.
use Rattle.std.proofs.Common.{◌≡◌, ℕ, ◌-◌, ◌≤◌, Bool, List, [], ◌∷◌, ◌++◌, length, take, drop, replicate, sym, refl, ap, ◌∙◌, arith}
use mathlib.Core.HLevel.{is_prop→PathP, ×₃_prop}
use native.Mathlib.Bridge.{le_prop}
use base.Stored.{Coded-set, coded_ℕ, coded_list}
use Rattle.std.proofs.lemmas.List.{take-append-drop, length-take-le}
use Rattle.std.specs.Cmp.Lexicographic.{slice_cmp}
use Rattle.std.specs.declared.cmp.Ordering.{Ordering}
use Rattle.std.specs.Ordering.{nat_cmp, ordering_then}
use Rattle.std.specs.Str.{bytes_eq}
use Rattle.std.proofs.lemmas.Slice.Eq.{bytes_eq-Decides}
use Rattle.std.proofs.lemmas.Bool.Decides.{nat_tests, same_from_decides, Decides-like}
use Rattle.text.specs.declared.bounded.Text.{Text}
use Rattle.text.specs.Texts.{text_of, lexical, number_order, order}

number_cmp : (x y : ℕ) → nat_cmp x y ≡ number_order x y
number_cmp x y = grind (arith, nat_tests)

-- the library's order of lists is this one
pub as_lex : {X : Type 0} {R : X → X → Ordering} (f : X → X → Ordering) → ((x y : X) → f x y ≡ R x y) → (xs ys : List X) → lexical f xs ys ≡ slice_cmp R xs ys
as_lex f h [] [] = refl
as_lex f h [] (y ∷ ys) = refl
as_lex f h (x ∷ xs) [] = refl
as_lex f h (x ∷ xs) (y ∷ ys) = λ i. ordering_then (h x y i) (as_lex f h xs ys i)

pub lex_order : (xs ys : List ℕ) → slice_cmp nat_cmp xs ys ≡ order xs ys
lex_order xs ys = sym (as_lex number_order (λ x y. sym (number_cmp x y)) xs ys)

-- equal texts are equal values
pub text_same : {n : ℕ} (t u : Text n) → text_of t ≡ text_of u → t ≡ u
text_same {n} t u e =
    let len : t.len ≡ u.len =
    sym (length-take-le t.len t.bytes (omega arith)) ∙ ap length e ∙ length-take-le u.len u.bytes (omega arith) in
    let bytes : t.bytes ≡ u.bytes =
    sym (take-append-drop t.len t.bytes)
    ∙ (λ i. e i ++ (t.ok.2 ∙ ap (λ m. replicate (n - m) 0) len ∙ sym u.ok.2) i)
    ∙ take-append-drop u.len u.bytes in
    λ i. record {
      bytes = bytes i;
      len = len i;
      ok = is_prop→PathP (λ j. (len j ≤ n) × (length (bytes j) ≡ n) × (drop (len j) (bytes j) ≡ replicate (n - len j) 0))
          (λ j. ×₃_prop le_prop (Coded-set coded_ℕ _ _) (Coded-set (coded_list coded_ℕ) _ _)) t.ok u.ok i;
    }

-- texts of one length are compared with the zeros after them
pub same_with_zeros : {n : ℕ} (t u : Text n) (r : Bool) → t.len ≡ u.len → r ≡ bytes_eq t.bytes u.bytes → r ≡ bytes_eq (text_of t) (text_of u)
same_with_zeros t u r l e =
    e ∙ same_from_decides _ _
    (Decides-like _ (λ p i. take (l i) (p i)) (λ q. ap (λ x. x.bytes) (text_same t u q)) (bytes_eq-Decides t.bytes u.bytes))
    (bytes_eq-Decides (text_of t) (text_of u))
