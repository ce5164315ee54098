-- What stands in the cells of a sheet.
use Rattle.std.proofs.Common.{◌≡◌, ℕ, zero, suc, ◌+◌, ◌-◌, ◌%◌, ◌^◌, ◌<◌, ◌≤◌, Bool, true, false, cond, eqb, get_or, set, replicate, ℤ, pos, neg_ℤ, sym, refl, ap, ◌∙◌, ⊎_elim, arith, get_or-set_other}
use lib.ListN.{get_or-replicate, length-replicate}
use Rattle.std.proofs.lemmas.Grind.{get_or-set_at}
use Rattle.std.proofs.lemmas.List.{get_or_past}
use Rattle.std.proofs.lemmas.Bool.{cases_eq, cases_lt, eq-eqb, ne_eqb}
use Rattle.life.specs.Parts.{KeyParts, LifeParts}
use Rattle.measure.specs.declared.sheet.Sheet.{Sheet}
use Rattle.measure.specs.Positions.{traded, brought}
use Rattle.measure.specs.Sheets.{sheet, cell, no_sheet, added, negated, residue, sheet_weight, one_cell}
use Rattle.measure.specs.Laws.{cell_sheet, sheet_ext}

pub sheet_is : (x : Sheet) (f : ℕ → ℕ) → ((n : ℕ) → n < 64 → cell x n ≡ f n % 2 ^ 64) → x ≡ sheet f
sheet_is x f h = sheet_ext x (sheet f) (λ n p. h n p ∙ sym (cell_sheet f n p))

-- ---- No sheet

pub zeros_at : (n : ℕ) → n < 64 → get_or {A = ℕ} (replicate 64 0) n 0 ≡ 0
zeros_at n h = get_or-replicate {A = ℕ} 64 n 0 0 h

pub zeros_fit : (n : ℕ) → get_or {A = ℕ} (replicate 64 0) n 0 < 2 ^ 64
zeros_fit n =
    ⊎_elim
    (λ h. omega (arith, zeros_at n h))
    (λ h. omega (arith, get_or_past {X = ℕ} (replicate 64 0) n 0 (omega (arith, length-replicate {A = ℕ} 64 0))))
    (cases_lt n 64)

-- ---- One cell

pub cell_past : (x : Sheet) (n : ℕ) → 64 ≤ n → cell x n ≡ 0
cell_past x n h = get_or_past x.cells n 0 (omega (arith, x.whole))

cell_one : (at v n : ℕ) → n < 64 → cell (one_cell at v) n ≡ cond (eqb n at) v 0 % 2 ^ 64
cell_one at v n h = cell_sheet (λ i. cond (eqb i at) v 0) n h

one_here : (at v n : ℕ) → n < 64 → n ≡ at → cell (one_cell at v) n ≡ v % 2 ^ 64
one_here at v n h e = cell_one at v n h ∙ ap (λ b. cond b v 0 % 2 ^ 64) (eq-eqb n at e)

one_elsewhere : (at v n : ℕ) → n < 64 → (n ≡ at → ⊥) → cell (one_cell at v) n ≡ 0
one_elsewhere at v n h e = cell_one at v n h ∙ ap (λ b. cond b v 0 % 2 ^ 64) (ne_eqb n at e)

-- a number added to one cell
pub raised : (x y : Sheet) (at v : ℕ) → at < 64 → y.cells ≡ set x.cells at ((cell x at + v) % 2 ^ 64) → y ≡ added x (one_cell at v)
raised x y at v h e =
    sheet_is y (λ n. cell x n + cell (one_cell at v) n) (λ n q.
    ap (λ l. get_or l n 0) e ∙ ⊎_elim
    (λ same.
    let old : cell x n ≡ cell x at = ap (cell x) same in
    get_or-set_at x.cells at n _ 0 same (omega (arith, x.whole)) ∙ omega (arith, one_here at v n q same))
    (λ other. get_or-set_other x.cells at n _ 0 other ∙ omega (arith, x.fit n, one_elsewhere at v n q other))
    (cases_eq n at))

pub one_negated : (at v w : ℕ) → v < 2 ^ 64 → w < 2 ^ 64 → (w + v) % 2 ^ 64 ≡ 0 → one_cell at w ≡ negated (one_cell at v)
one_negated at v w h g e =
    sheet_is (one_cell at w) (λ n. 2 ^ 64 - cell (one_cell at v) n) (λ n q.
    ⊎_elim
    (λ same. omega (arith, one_here at v n q same, one_here at w n q same))
    (λ other. omega (arith, one_elsewhere at v n q other, one_elsewhere at w n q other))
    (cases_eq n at))

-- ---- The weight of a life

pub residue_minus : (q : ℕ) → residue (neg_ℤ (pos q)) ≡ (2 ^ 64 - q % 2 ^ 64) % 2 ^ 64
residue_minus zero = omega arith
residue_minus (suc q) = refl

residue_cond : (b : Bool) (z : ℤ) → residue (cond b z (pos 0)) ≡ cond b (residue z) 0
residue_cond true z = refl
residue_cond false z = omega arith

-- one cell, that of the contract
pub weight_is : (key : KeyParts) (life : LifeParts) →
    sheet_weight key life ≡ one_cell key.of_contract (residue (traded key.of_kind key.of_side life.with_quantity))
weight_is key life =
    let z = traded key.of_kind key.of_side life.with_quantity in
    sheet_is (sheet_weight key life) (λ n. cond (eqb n key.of_contract) (residue z) 0)
    (λ n h. cell_sheet (λ i. residue (brought i key life)) n h ∙ ap (λ v. v % 2 ^ 64) (residue_cond (eqb n key.of_contract) z))

-- ---- Sums

pub cell_added : (x y : Sheet) (n : ℕ) → cell (added x y) n ≡ (cell x n + cell y n) % 2 ^ 64
cell_added x y n =
    ⊎_elim
    (λ h. cell_sheet (λ i. cell x i + cell y i) n h)
    (λ h. omega (arith, cell_past (added x y) n h, cell_past x n h, cell_past y n h))
    (cases_lt n 64)

pub cell_none : (n : ℕ) → cell no_sheet n ≡ 0
cell_none n = ⊎_elim (λ h. cell_sheet (λ i. 0) n h) (λ h. cell_past no_sheet n h) (cases_lt n 64)
