use Rattle.std.proofs.Common.{◌+◌, take, sym, subst}
use Rattle.resends.specs.Marks.{marks_in, LastErrors}
use Rattle.resends.proofs.Errors.{no_line, other_line, error_line}
use Rattle.resends.proofs.survivors.last_errors.Goals as goal
use Rattle.resends.proofs.survivors.last_errors.Goals.{then-eq+in_ok-insert, else-eq}

pub loop-place-preserved-in_default : goal.loop-place-preserved-in_default
loop-place-preserved-in_default c =
    no_line c.args.marks.now c.loop-place.place c.index-marks-place.result c.loop-place.last c.loop-place-test.true c.index-marks-place.is c.loop-place.invariant
    c.in_default.not-Accepted

pub loop-place-preserved : goal.loop-place-preserved
loop-place-preserved c =
    let ms = c.args.marks.now in
    let i = c.loop-place.place in
    let m = c.index-marks-place.result in
    let last = c.loop-place.last in
    elim c.if-eq.branch [
      | then-eq+in_ok-insert w ↦
          subst (LastErrors (marks_in (take (i + 1) ms))) (sym w.last-is)
          (error_line ms i m last c.loop-place-test.true c.index-marks-place.is c.loop-place.invariant
          c.in-Accepted.key c.in-Accepted.action c.in-Accepted.is w.insert.new.self w.if-eq.ensures w.in_ok-insert.ensures.updates.0)
      | else-eq w ↦
          subst (LastErrors (marks_in (take (i + 1) ms))) (sym w.last-is)
          (other_line ms i m last c.loop-place-test.true c.index-marks-place.is c.loop-place.invariant
          c.in-Accepted.key c.in-Accepted.action c.in-Accepted.is w.if-eq.ensures)
    ]
