-- The lines of the position report, one by one.
use Rattle.std.proofs.Common.{◌≡◌, ℕ, ◌+◌, ◌<◌, ◌≤◌, true, false, eqb, List, [], ◌++◌, length, get_or, take, drop, ℤ, pos, negsuc, nat_abs, sym, refl, ap, ◌∙◌, arith, length-append, length-drop, take-add, w64, SFits, of_z, eq-eqb, ne_eqb}
use Rattle.std.proofs.lemmas.List.{at_drop_more, at_drop_all, take_at, drop_at, drop-drop}
use Rattle.output.specs.declared.lines.AnswerLine.TheVariants.{Position}
use Rattle.output.specs.Lines.{line_text}
use Rattle.output.specs.Positions.{position_text, positions_from}

-- ---- A sum

no_size : (z : ℤ) → SFits w64 z → of_z w64 z ≡ 0 → nat_abs z ≡ 0
no_size (pos n) fits e = e
no_size (negsuc n) fits e = absurd (omega (arith, fits.sfits))

no_bits : (z : ℤ) → nat_abs z ≡ 0 → of_z w64 z ≡ 0
no_bits (pos n) e = e
no_bits (negsuc n) e = absurd (omega arith)

pub position_none : (k : ℕ) (z : ℤ) → SFits w64 z → of_z w64 z ≡ 0 → position_text k z ≡ []
unfolding position_text
position_none k z fits e = let zero : eqb (nat_abs z) 0 ≡ true = eq-eqb (nat_abs z) 0 (no_size z fits e) in rw zero

pub position_some : (k : ℕ) (z : ℤ) → (of_z w64 z ≡ 0 → ⊥) → position_text k z ≡ line_text (Position k z)
unfolding position_text
position_some k z ne = let some : eqb (nat_abs z) 0 ≡ false = ne_eqb (nat_abs z) 0 (λ e. ne (no_bits z e)) in rw some

-- ---- The sums from a contract on

module _ (sums : List ℤ) (k : ℕ) where
  pub positions_more : k < length sums → positions_from k (drop k sums) ≡ position_text k (get_or sums k (pos 0)) ++ positions_from (k + 1) (drop (k + 1) sums)
  positions_more within = at_drop_more (positions_from k) sums k (pos 0) within

  pub length_positions_more : k < length sums → length (positions_from k (drop k sums)) ≡ length (position_text k (get_or sums k (pos 0))) + length (positions_from (k + 1) (drop (k + 1) sums))
  length_positions_more within = ap length (positions_more within) ∙ length-append (position_text k (get_or sums k (pos 0))) (positions_from (k + 1) (drop (k + 1) sums))

  pub positions_all : length sums ≤ k → positions_from k (drop k sums) ≡ []
  positions_all past = at_drop_all (positions_from k) sums k past

-- ---- A text of which a front is written, and one part more

module _ (text part rest : List ℕ) (at : ℕ) (left : drop at text ≡ part ++ rest) where
  pub drop_part : drop (at + length part) text ≡ rest
  drop_part = sym (drop-drop (length part) at text) ∙ ap (drop (length part)) left ∙ drop_at part rest (length part) refl

  pub take_part : take (at + length part) text ≡ take at text ++ part
  take_part = take-add at (length part) text ∙ ap (λ l. take at text ++ take (length part) l) left ∙ ap (λ l. take at text ++ l) (take_at part rest (length part) refl)

  pub part_within : at ≤ length text → at + length part ≤ length text
  part_within within = omega (arith, length-drop at text, ap length left, length-append part rest)
