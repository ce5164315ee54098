use Rattle.std.proofs.Common.{◌≤◌, [], ◌∷◌, ◌++◌, length, map, ap, ◌∙◌, arith, rules}
use Rattle.std.proofs.lemmas.List.{map-append, length-map}
use Rattle.contract.specs.Held.{contract_of}
use Rattle.contract.proofs.Limits.{within, held_within}
use Rattle.contract.proofs.Tables.{by_text, by_list, by_none}
use Rattle.contract.proofs.list.ContractList.add.Goals as goal

pub returns-in_err-contract : goal.returns-in_err-contract
returns-in_err-contract c =
    let a = by_text c.args.self.now c.args.text.now _ _ c.from_residual.ensures.1 (search rules) in
    record {
      told = a.0;
      list = a.1;
      limits = held_within c.self.inside _ c.self.invariant c.self.view_is;
    }

pub returns-in_err-check : goal.returns-in_err-check
returns-in_err-check c =
    let a = by_list c.args.self.now c.args.text.now c.in_ok-contract.contract c.in_ok-contract.ensures _ _ c.from_residual-in_err-check.ensures.1 c.in_err-check.ensures.told in
    record {
      told = a.0;
      list = a.1;
      limits = held_within c.self.inside _ c.self.invariant c.self.view_is;
    }

pub returns : goal.returns
returns c =
    let contract = c.in_ok-contract.contract in
    let held = c.self.inside.contracts.items in
    let l = length-map held contract_of in
    let m =
    ap (map contract_of) c.push_reserved.ensures.items
    ∙ map-append contract_of held (contract ∷ [])
    ∙ ap (λ cs. cs ++ contract_of contract ∷ []) c.self.view_is in
    let count = ap length c.self.view_is in
    let more = c.push_reserved.ensures.len in
    let few = c.in_ok-check.ensures.room in
    let room : length c.push_reserved.new.self.items ≤ 63 = omega (arith, l, count, few, more) in
    let a = by_none c.args.self.now c.args.text.now contract c.in_ok-contract.ensures
    c.len.result _ (omega (arith, l, count, c.len.ensures, c.push_reserved.ensures.len)) m c.in_ok-check.ensures.told in
    record {
      told = a.0;
      list = a.1;
      limits = within c.push_reserved.new.self.items room;
    }
