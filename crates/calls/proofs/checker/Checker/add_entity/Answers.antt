use Rattle.std.proofs.Common.{ap}
use Rattle.std.proofs.lemmas.Result.{on_err_weaker}
use Rattle.text.specs.Bytes.{Bytes}
use Rattle.std.specs.Prelude.{List}
use Rattle.book.specs.Book.{AddEntity}
use Rattle.calls.specs.Held.{book_in}
use Rattle.calls.specs.Said.{entity_answer}
use Rattle.calls.proofs.Checkers.{continues}
use Rattle.calls.proofs.FilePlaces.{entities_stay}
use Rattle.calls.proofs.Moves.{entity_step}
use Rattle.calls.proofs.checker.Checker.add_entity.Goals as goal

pub returns-clause-follows : goal.returns-clause-follows
returns-clause-follows g c =
    let m = g.M.Measure in
    let was = c.args.self.now in
    continues m was (record was { entities = c.add.new.self }) (AddEntity c.args.code.now) (entity_answer c.add.result)
    (entity_step m (book_in was) was.register.total c.args.code.now c.add.result c.add.new.self c.add.ensures.told c.add.ensures.list)

pub returns-clause-refused : goal.returns-clause-refused
returns-clause-refused g c =
    let was = c.args.self.now in
    on_err_weaker c.add.result (λ e. ap (λ (es : List Bytes). record was { entities = es }) e)
    (entities_stay was.entities c.add.new.self c.args.code.now c.add.result c.add.ensures.told c.add.ensures.list)
