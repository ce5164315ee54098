use Rattle.std.proofs.Common.{ℕ, [], take}
use Rattle.calls.specs.Runs.{HasRun}
use Rattle.calls.specs.Said.{calls_said}
use Rattle.calls.proofs.checker.Checker.run.Given as goal

abbrev pub invariant-loop-call : goal.invariant-loop-call
invariant-loop-call g l =
    let m = g.M.Measure in
    (capacity : ℕ) → HasRun m capacity [] l.initial.run →
    HasRun m capacity (calls_said (take l.call-index l.calls)) l.run
