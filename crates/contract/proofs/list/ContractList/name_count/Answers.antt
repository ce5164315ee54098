use Rattle.std.proofs.Common.{◌≡◌, ◌^◌, ◌≤◌, length, sum_by, rules, arith}
use Rattle.std.proofs.lemmas.Iterator.{YieldsList-from_slice}
use Rattle.std.proofs.lemmas.Iterator.Adapters.{fits_from_length, at_most_from_yields_List}
use Rattle.contract.specs.declared.held.HeldContract.{HeldContract}
use Rattle.contract.proofs.Searches.{eight_each}
use Rattle.contract.proofs.list.ContractList.name_count.Goals as goal

pub sum-requires-clause-fits : goal.sum-requires-clause-fits
sum-requires-clause-fits c =
    let few : length c.deref.result.now ≤ 63 = omega arith in
    fits_from_length _ _ 63 (2 ^ 64) (at_most_from_yields_List (YieldsList-from_slice c.deref.result.now cc) few) c.map.ensures.closure (omega arith) (λ x r q k. search rules)

pub returns-clause-small : goal.returns-clause-small
returns-clause-small c =
    let counted : c.sum.result ≡ sum_by (λ (c : HeldContract). length c.names.texts.items) c.self.inside.contracts.items = search rules in
    omega (arith, counted, eight_each c.self.inside.contracts.items)
