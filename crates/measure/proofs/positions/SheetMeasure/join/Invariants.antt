use Rattle.std.proofs.Common.{◌≡◌, ℕ, ◌+◌, ◌%◌, ◌^◌, ◌<◌, ◌≤◌, get_or, length}
use Rattle.measure.proofs.positions.SheetMeasure.join.Given as goal

abbrev pub invariant-loop-i : goal.invariant-loop-i
invariant-loop-i l =
    (length l.cell-items ≡ 64)
    × ((n : ℕ) → get_or l.cell-items n 0 < 2 ^ 64)
    × ((n : ℕ) → n < l.i → get_or l.cell-items n 0 ≡ (get_or l.initial.cell-items n 0 + get_or l.other.cells n 0) % 2 ^ 64)
    × ((n : ℕ) → l.i ≤ n → get_or l.cell-items n 0 ≡ get_or l.initial.cell-items n 0)
