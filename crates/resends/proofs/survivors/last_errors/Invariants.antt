use Rattle.std.proofs.Common.{take}
use Rattle.resends.specs.Marks.{marks_in, LastErrors}
use Rattle.resends.proofs.survivors.last_errors.Given as goal

abbrev pub invariant-loop-place : goal.invariant-loop-place
invariant-loop-place l = LastErrors (marks_in (take l.place l.marks)) l.last
