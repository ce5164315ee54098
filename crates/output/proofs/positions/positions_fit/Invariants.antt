use Rattle.std.proofs.Common.{◌≡◌, ◌+◌, length, drop}
use Rattle.output.specs.Positions.{positions_from, positions_text}
use Rattle.output.proofs.positions.positions_fit.Given as goal

abbrev pub invariant-loop-contract : goal.invariant-loop-contract
invariant-loop-contract l = l.left + length (positions_text l.sums) ≡ l.room + length (positions_from l.contract (drop l.contract l.sums))
