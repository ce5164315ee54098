use Rattle.std.proofs.Common.{ap}
use Rattle.calls.specs.FilesHeld.{Filed}
use Rattle.book.specs.Book.{Close}
use Rattle.calls.specs.Held.{book_in}
use Rattle.calls.specs.Said.{ending_answer}
use Rattle.calls.proofs.Checkers.{continues_files}
use Rattle.calls.proofs.Moves.{close_step}
use Rattle.calls.proofs.checker.Checker.close_at.Goals as goal

pub returns : goal.returns
returns g c =
    let m = g.M.Measure in
    let was = c.args.self.now in
    let call = c.close_at in
    continues_files m was call.new.self (Close c.args.number) (ending_answer call.result)
    (close_step m (book_in was) was.register.total c.args.number call.result (call.new.self.files) call.ensures.told call.ensures.counts (ap (λ (f : Filed). f.files) call.ensures.list))
