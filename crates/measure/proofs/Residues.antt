-- A cell of the position sheet is the true sum modulo 2^64, over any lives.
use Rattle.std.proofs.Common.{◌≡◌, ℕ, ◌+◌, ◌%◌, ◌^◌, cond, [], ◌∷◌, ℤ, pos, negsuc, ◌+ℤ◌, sym, refl, ap, ◌∙◌, ⊎_elim, arith}
use Rattle.std.specs.List.{AllByRecursion}
use Rattle.std.proofs.lemmas.Int.{ints}
use Rattle.std.proofs.lemmas.Bool.{cases_lt, ne_eqb}
use Rattle.life.specs.declared.life.State.TheVariants.{Open, Cancelled}
use Rattle.life.specs.Lives.{Pair, Lives}
use Rattle.measure.specs.Totals.{while_open, share, total_of}
use Rattle.measure.specs.Positions.{traded, brought, true_position, Within}
use Rattle.measure.specs.Sheets.{cell, no_sheet, added, residue, sheet_weight}
use Rattle.measure.specs.Laws.{cell_sheet}
use Rattle.measure.proofs.Cells.{cell_past, cell_added, cell_none}

residue_small : (z : ℤ) → residue z % 2 ^ 64 ≡ residue z
residue_small (pos n) = omega arith
residue_small (negsuc n) = omega arith

residue_sum : (y z s : ℤ) → s ≡ y +ℤ z → residue s ≡ (residue y + residue z) % 2 ^ 64
residue_sum (pos a) (pos b) (pos c) e = omega (arith, ints)
residue_sum (pos a) (pos b) (negsuc c) e = omega (arith, ints)
residue_sum (pos a) (negsuc b) (pos c) e = omega (arith, ints)
residue_sum (pos a) (negsuc b) (negsuc c) e = omega (arith, ints)
residue_sum (negsuc a) (pos b) (pos c) e = omega (arith, ints)
residue_sum (negsuc a) (pos b) (negsuc c) e = omega (arith, ints)
residue_sum (negsuc a) (negsuc b) (pos c) e = omega (arith, ints)
residue_sum (negsuc a) (negsuc b) (negsuc c) e = omega (arith, ints)

weight_residue : (n : ℕ) (p : Pair) → Within p → cell (sheet_weight p.0 p.1) n ≡ residue (brought n p.0 p.1)
weight_residue n p w =
    let z = traded p.0.of_kind p.0.of_side p.1.with_quantity in
    ⊎_elim
    (λ h. cell_sheet (λ i. residue (brought i p.0 p.1)) n h ∙ residue_small (brought n p.0 p.1))
    (λ h. cell_past (sheet_weight p.0 p.1) n h ∙ ap (λ b. residue (cond b z (pos 0))) (sym (ne_eqb n p.0.of_contract (λ e. omega (arith, w.listed)))))
    (cases_lt n 64)

share_residue : (n : ℕ) (p : Pair) → Within p → cell (share no_sheet sheet_weight p.0 p.1) n ≡ residue (share (pos 0) (brought n) p.0 p.1)
share_residue n p w =
    elim p.1.in_state as (λ s. cell (while_open no_sheet s (sheet_weight p.0 p.1)) n ≡ residue (while_open (pos 0) s (brought n p.0 p.1)))
    [ Open ↦ weight_residue n p w | Cancelled ↦ cell_none n ]

pub total_residue : (n : ℕ) (ps : Lives) → AllByRecursion Within ps → cell (total_of no_sheet added sheet_weight ps) n ≡ residue (true_position n ps)
total_residue n [] w = cell_none n
total_residue n (p ∷ ps) w =
    cell_added (share no_sheet sheet_weight p.0 p.1) (total_of no_sheet added sheet_weight ps) n
    ∙ (λ i. (share_residue n p w.0 i + total_residue n ps w.1 i) % 2 ^ 64)
    ∙ sym (residue_sum (share (pos 0) (brought n) p.0 p.1) (true_position n ps) (true_position n (p ∷ ps)) refl)
