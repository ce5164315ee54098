use Rattle.std.proofs.Common.{◌≡◌, ◌≤◌, ◌++◌, length, take, drop}
use Rattle.output.specs.Positions.{positions_from, positions_text}
use Rattle.output.proofs.positions.write_positions.Given as goal

abbrev pub invariant-loop-contract : goal.invariant-loop-contract
invariant-loop-contract l =
    (drop l.at (positions_text l.sums) ≡ positions_from l.contract (drop l.contract l.sums))
    × (l.at ≤ length (positions_text l.sums))
    × (l.out ≡ take l.at (positions_text l.sums) ++ drop l.at l.initial.out)
