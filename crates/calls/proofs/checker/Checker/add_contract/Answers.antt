use Rattle.std.proofs.Common.{List, ap, rules}
use Rattle.std.proofs.lemmas.Result.{on_err_weaker}
use Rattle.contract.specs.ContractList.{Contract}
use Rattle.book.specs.Book.{AddContract}
use Rattle.calls.specs.Held.{book_in}
use Rattle.calls.specs.Said.{contract_answer}
use Rattle.calls.proofs.Checkers.{continues}
use Rattle.calls.proofs.FilePlaces.{contracts_stay}
use Rattle.calls.proofs.Moves.{contract_numbered, contract_step}
use Rattle.calls.proofs.checker.Checker.add_contract.Goals as goal

pub returns-clause-number : goal.returns-clause-number
returns-clause-number g c = search (rules, contract_numbered g.M.Measure c.args.text.now _ c.add.result _ c.add.ensures.told)

pub returns-clause-follows : goal.returns-clause-follows
returns-clause-follows g c =
    let m = g.M.Measure in
    let was = c.args.self.now in
    continues m was (record was { contracts = c.add.new.self }) (AddContract c.args.text.now) (contract_answer c.add.result)
    (contract_step m (book_in was) was.register.total c.args.text.now c.add.result c.add.new.self c.add.ensures.told c.add.ensures.list)

pub returns-clause-refused : goal.returns-clause-refused
returns-clause-refused g c =
    let was = c.args.self.now in
    on_err_weaker c.add.result (λ e. ap (λ (cs : List Contract). record was { contracts = cs }) e)
    (contracts_stay was.contracts c.add.new.self c.args.text.now c.add.result c.add.ensures.told c.add.ensures.list)
