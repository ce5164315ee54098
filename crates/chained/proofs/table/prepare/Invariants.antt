use Rattle.std.proofs.Common.{◌≡◌, ℕ, ◌<◌}
use Rattle.chained.specs.Table.{at}
use Rattle.chained.proofs.table.prepare.Given as goal

abbrev pub invariant-loop-slot : goal.invariant-loop-slot
invariant-loop-slot l =
    ((m : ℕ) → m < l.slot-index → (at l.slots m).head ≡ 0)
    × ((m : ℕ) → (at l.slots m).next ≡ (at l.initial.slots m).next)
    × ((m : ℕ) → (at l.slots m).key ≡ (at l.initial.slots m).key)
    × ((m : ℕ) → (at l.slots m).life ≡ (at l.initial.slots m).life)
