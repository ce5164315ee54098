use Rattle.std.proofs.Common.{◌≡◌, ℕ, ◌-◌, ◌%◌, ◌^◌, ◌<◌, ◌≤◌, get_or, length}
use Rattle.measure.proofs.positions.SheetMeasure.invert.Given as goal

abbrev pub invariant-loop-cell : goal.invariant-loop-cell
invariant-loop-cell l =
    (length l.cell-items ≡ 64)
    × ((n : ℕ) → get_or l.cell-items n 0 < 2 ^ 64)
    × ((n : ℕ) → n < l.cell-index → get_or l.cell-items n 0 ≡ (2 ^ 64 - get_or l.initial.cell-items n 0) % 2 ^ 64)
    × ((n : ℕ) → l.cell-index ≤ n → get_or l.cell-items n 0 ≡ get_or l.initial.cell-items n 0)
