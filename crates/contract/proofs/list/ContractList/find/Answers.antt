use Rattle.std.proofs.Common.{◌≡◌, ◌+◌, Some, None, sym, ap, ◌∙◌, rules, arith}
use Rattle.std.specs.List.{position}
use Rattle.std.proofs.lemmas.Iterator.Adapters.{position_from-zero}
use Rattle.std.proofs.lemmas.List.Quantifiers.{position-Some}
use Rattle.contract.specs.ContractList.{listed}
use Rattle.contract.specs.Held.{contract_of, has_id, found_in}
use Rattle.contract.proofs.Searches.{found_at, none_found}
use Rattle.contract.proofs.list.ContractList.find.Goals as goal

pub returns-in_err-at-clause-told : goal.returns-in_err-at-clause-told
returns-in_err-at-clause-told c =
    let held = c.self.inside.contracts.items in
    let id = c.args.id.now in
    let none : position (has_id id) held ≡ None = search rules in
    ap found_in c.from_residual.ensures ∙ sym (none_found 1 0 held id (sym (position_from-zero (has_id id) held) ∙ none)) ∙ ap (λ cs. listed cs id) c.self.view_is

pub returns-clause-told : goal.returns-clause-told
returns-clause-told c =
    let held = c.self.inside.contracts.items in
    let id = c.args.id.now in
    let at = c.in_ok-at.at in
    let x = c.index.result.now in
    let some : position (has_id id) held ≡ Some at = search rules in
    let p = position-Some (has_id id) held at x some in
    let n : at + 1 ≡ 1 + at = omega arith in
    (λ i. Some (n i, contract_of (c.index.ensures i)))
    ∙ sym (found_at 1 held id at x p.0 p.1 p.2)
    ∙ ap (λ cs. listed cs id) c.self.view_is
