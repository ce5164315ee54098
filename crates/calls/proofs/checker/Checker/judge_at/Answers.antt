use Rattle.std.proofs.Common.{ap}
use Rattle.calls.specs.FilesHeld.{Filed}
use Rattle.calls.specs.Held.{book_in}
use Rattle.calls.proofs.Judging.{counted_step}
use Rattle.calls.proofs.checker.Checker.judge_at.Goals as goal

pub returns-clause-step : goal.returns-clause-step
returns-clause-step g c =
    let m = g.M.Measure in
    let was = c.args.self.now in
    let mid = c.try_line-answer.new.self in
    counted_step m (book_in was) (book_in mid) was.register.total mid.register.total c.args.number c.args.line.now
    c.try_line-answer.result c.is_ok.result (c.count_line.new.self.files) c.try_line-answer.ensures.tried c.is_ok.ensures.value (ap (λ (f : Filed). f.files) c.count_line.ensures)
