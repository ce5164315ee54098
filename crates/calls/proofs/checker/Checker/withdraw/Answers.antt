use Rattle.std.proofs.Common.{ap}
use Rattle.std.proofs.lemmas.Result.{on_err_weaker}
use Rattle.calls.specs.FilesHeld.{Filed}
use Rattle.book.specs.Book.{Withdraw}
use Rattle.calls.specs.Held.{book_in}
use Rattle.calls.specs.Said.{ending_answer}
use Rattle.calls.proofs.Checkers.{continues_files}
use Rattle.calls.proofs.FilePlaces.{as_many_unless, still_reserved}
use Rattle.calls.proofs.Moves.{withdraw_step}
use Rattle.calls.proofs.checker.Checker.withdraw.Goals as goal

pub returns-clause-follows : goal.returns-clause-follows
returns-clause-follows g c =
    let m = g.M.Measure in
    let was = c.args.self.now in
    continues_files m was c.withdraw.new.self (Withdraw c.args.file.number) (ending_answer c.withdraw.result)
    (withdraw_step m (book_in was) was.register.total c.args.file.number c.withdraw.result (c.withdraw.new.self.files) c.withdraw.ensures.told c.withdraw.ensures.counts (ap (λ (f : Filed). f.files) c.withdraw.ensures.list))

pub returns-clause-refused : goal.returns-clause-refused
returns-clause-refused g c =
    let was = c.args.self.now in
    on_err_weaker c.withdraw.result (λ e. ap (λ (files : Filed). record was { files = files }) e) c.withdraw.ensures.refused

pub returns-clause-places : goal.returns-clause-places
returns-clause-places g c = still_reserved _ _ (as_many_unless c.args.self.now.files c.withdraw.new.self _ c.args.file.number _ c.withdraw.ensures.list)
