use Rattle.std.proofs.Common.{ℕ, ◌-◌, ◌<◌, ◌≤◌}
use Rattle.life.specs.Keys.{Before}
use Rattle.ordered.specs.Table.{at}
use Rattle.ordered.proofs.table.Table.place_of.Given as goal

abbrev pub invariant-loop-low : goal.invariant-loop-low
invariant-loop-low l =
    (l.low ≤ l.high) × (l.high ≤ l.self.count)
    × ((m : ℕ) → m < l.low → Before (at l.entries m).key l.key)
    × ((m : ℕ) → l.high ≤ m → m < l.self.count → Before l.key (at l.entries m).key)

abbrev pub decreases-loop-low : goal.decreases-loop-low
decreases-loop-low l = l.high - l.low
