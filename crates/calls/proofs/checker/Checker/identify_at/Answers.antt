use Rattle.std.proofs.Common.{ap}
use Rattle.calls.specs.FilesHeld.{Filed}
use Rattle.book.specs.Book.{Identify}
use Rattle.calls.specs.Held.{book_in}
use Rattle.calls.specs.Said.{identify_answer}
use Rattle.calls.proofs.Checkers.{continues_files}
use Rattle.calls.proofs.Moves.{identify_step}
use Rattle.calls.proofs.checker.Checker.identify_at.Goals as goal

pub returns : goal.returns
returns g c =
    let m = g.M.Measure in
    let was = c.args.self.now in
    let call = c.identify_at in
    continues_files m was call.new.self (Identify c.args.number c.args.code.now) (identify_answer call.result)
    (identify_step m (book_in was) was.register.total c.args.number c.args.code.now call.result (call.new.self.files) call.ensures.told (ap (λ (f : Filed). f.files) call.ensures.list))
