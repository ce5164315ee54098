-- The laws of joining, for each measure: they stand with the definitions since a measure hands them out.
use Rattle.std.specs.Prelude.{◌≡◌, ℕ, ◌+◌, ◌-◌, ◌%◌, ◌^◌, ◌<◌, length, slice_index}
use Rattle.std.proofs.Common.{ap, sym, ◌∙◌, arith}
use mathlib.Core.HLevel.{is_prop→PathP, Π_prop}
use Rattle.std.proofs.Math.Bridge.{le_prop}
use Rattle.std.proofs.Math.Nat.{ℕ_set}
use Rattle.std.specs.Int.Bits.{xor_assoc, xor_zero_l, xor_self}
use Rattle.std.proofs.lemmas.Nat.{xor_comm}
use Rattle.std.proofs.lemmas.List.{ext_get_or}
use Rattle.measure.specs.declared.sheet.Sheet.{Sheet}
use Rattle.measure.specs.Group.{Group}
use Rattle.measure.specs.Words.{check_word, no_word, xored, same_word}
use Rattle.measure.specs.Sheets.{cells_at, sheet, cell, no_sheet, added, negated}
use Rattle.measure.specs.Boths.{both, both_joined, both_inverse}

-- ---- The check word

pub word_group : Group no_word xored same_word
word_group = record {
  assoc = λ x y z. ap check_word (xor_assoc x.word y.word z.word);
  comm = λ x y. ap check_word (xor_comm x.word y.word);
  unit = λ x. ap check_word (xor_zero_l x.word);
  undo = λ x. ap check_word (xor_self x.word);
}

-- ---- The position sheet

pub cell_sheet : (f : ℕ → ℕ) (n : ℕ) → n < 64 → cell (sheet f) n ≡ f n % 2 ^ 64
unfolding sheet
cell_sheet f n h = cells_at f n h

-- a sheet is its cells
same_sheet : (x y : Sheet) → x.cells ≡ y.cells → x ≡ y
same_sheet x y e j = record {
  cells = e j;
  whole = is_prop→PathP (λ i. length (e i) ≡ 64) (λ i. ℕ_set _ _) x.whole y.whole j;
  fit = is_prop→PathP (λ i. (n : ℕ) → slice_index (e i) n < 2 ^ 64) (λ i. Π_prop (λ n. le_prop)) x.fit y.fit j;
}

pub sheet_ext : (x y : Sheet) → ((n : ℕ) → n < 64 → cell x n ≡ cell y n) → x ≡ y
sheet_ext x y h =
    same_sheet x y (ext_get_or 0 x.cells y.cells (x.whole ∙ sym y.whole) (λ n p. h n (omega (arith, x.whole))))

cell_added : (x y : Sheet) (n : ℕ) → n < 64 → cell (added x y) n ≡ (cell x n + cell y n) % 2 ^ 64
cell_added x y n h = cell_sheet (λ i. cell x i + cell y i) n h

pub sheet_group : Group no_sheet added negated
sheet_group = record {
  assoc = λ x y z. sheet_ext _ _ (λ n h.
      omega (arith, cell_added (added x y) z n h, cell_added x y n h, cell_added x (added y z) n h, cell_added y z n h));
  comm = λ x y. sheet_ext _ _ (λ n h. omega (arith, cell_added x y n h, cell_added y x n h));
  unit = λ x. sheet_ext _ _ (λ n h. omega (arith, cell_added no_sheet x n h, cell_sheet (λ i. 0) n h, x.fit n));
  undo = λ x. sheet_ext _ _ (λ n h.
      omega (arith, cell_added (negated x) x n h, cell_sheet (λ i. 2 ^ 64 - cell x i) n h, cell_sheet (λ i. 0) n h, x.fit n));
}

-- ---- Two measures side by side

pub both_eq : {A B : Type 0} {x x' : A} {y y' : B} → x ≡ x' → y ≡ y' → both x y ≡ both x' y'
both_eq p q j = both (p j) (q j)

pub both_group : {A B : Type 0} {p : A} {f : A → A → A} {i : A → A} {q : B} {g : B → B → B} {j : B → B} → Group p f i → Group q g j → Group (both p q) (both_joined f g) (both_inverse i j)
both_group F G = record {
  assoc = λ x y z. both_eq (F.assoc x.first y.first z.first) (G.assoc x.second y.second z.second);
  comm = λ x y. both_eq (F.comm x.first y.first) (G.comm x.second y.second);
  unit = λ x. both_eq (F.unit x.first) (G.unit x.second);
  undo = λ x. both_eq (F.undo x.first) (G.undo x.second);
}
