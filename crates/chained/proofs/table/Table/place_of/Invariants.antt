use Rattle.std.proofs.Common.{◌≡◌, ℕ, ◌<◌, ◌≤◌, length}
use Rattle.chained.specs.Table.{at, chain_of, chain_at, Sound}
use Rattle.chained.proofs.table.Table.place_of.Given as goal

abbrev pub invariant-loop-j : goal.invariant-loop-j
invariant-loop-j l =
    Sound l.slots l.self.count
    × (l.j ≤ l.self.count) × (0 < l.j → chain_at l.slots l.j ≡ chain_of l.key (length l.slots))
    × ((m : ℕ) → l.j < m → m ≤ l.self.count → (at l.slots m).key ≡ l.key → ⊥)

abbrev pub decreases-loop-j : goal.decreases-loop-j
decreases-loop-j l = l.j
