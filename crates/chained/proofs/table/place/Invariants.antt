use Rattle.std.proofs.Common.{◌≡◌, ℕ, ◌<◌, ◌≤◌, length, unwrap_or}
use Rattle.chained.specs.Table.{at, Linked, Spot}
use Rattle.chained.proofs.table.place.Given as goal

abbrev pub invariant-loop-j : goal.invariant-loop-j
invariant-loop-j l =
    let p = unwrap_or l.p 0 in
    (l.j ≤ l.count) × (p ≡ 0 → l.j ≡ (at l.slots l.b).head)
    × (0 < p → (l.i < p) × (p ≤ l.count) × (l.j ≡ (at l.slots p).next))
    × ((K : ℕ → ℕ) → Linked K l.slots l.count → 0 < p → K p ≡ l.b)
    × Spot l.p (length l.slots)
    × ((K : ℕ → ℕ) → Linked K l.slots l.count → 0 < l.j → K l.j ≡ l.b)

abbrev pub decreases-loop-j : goal.decreases-loop-j
decreases-loop-j l = l.j
