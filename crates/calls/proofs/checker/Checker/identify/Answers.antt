use Rattle.std.proofs.Common.{ap}
use Rattle.std.proofs.lemmas.Result.{on_err_weaker}
use Rattle.calls.specs.FilesHeld.{Filed}
use Rattle.book.specs.Book.{Identify}
use Rattle.calls.specs.Held.{book_in}
use Rattle.calls.specs.Said.{token_answer}
use Rattle.calls.proofs.Checkers.{continues_files}
use Rattle.calls.proofs.FilePlaces.{as_many_unless, still_reserved}
use Rattle.calls.proofs.Moves.{token_step}
use Rattle.calls.proofs.checker.Checker.identify.Goals as goal

pub returns-clause-follows : goal.returns-clause-follows
returns-clause-follows g c =
    let m = g.M.Measure in
    let was = c.args.self.now in
    let n = c.args.file.number in
    let fs = c.identify.new.self.files in
    continues_files m was c.identify.new.self (Identify n c.args.code.now) (token_answer c.identify.result)
    (token_step m (book_in was) was.register.total n c.args.code.now c.identify.result fs c.identify.ensures.told (ap (λ (f : Filed). f.files) c.identify.ensures.list))

pub returns-clause-refused : goal.returns-clause-refused
returns-clause-refused g c =
    let was = c.args.self.now in
    on_err_weaker c.identify.result (λ e. ap (λ (files : Filed). record was { files = files }) e) c.identify.ensures.refused

pub returns-clause-places : goal.returns-clause-places
returns-clause-places g c = still_reserved _ _ (as_many_unless c.args.self.now.files c.identify.new.self _ c.args.file.number _ c.identify.ensures.list)
