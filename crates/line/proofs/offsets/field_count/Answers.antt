use Rattle.std.proofs.Common.{◌<◌, ◌^◌, sum_by, rules, arith}
use Rattle.std.proofs.lemmas.Iterator.{YieldsList-from_slice, YieldsList-from_map}
use Rattle.std.proofs.lemmas.Iterator.Consumers.{YieldsList-at, sum_by_from_yields_List}
use Rattle.std.proofs.lemmas.Iterator.Consumers.{fits_by_from_yields_list}
use Rattle.line.proofs.Fields.{one_more, is_separator, separators_sum, separators_within}
use Rattle.line.proofs.offsets.field_count.Goals as goal

pub sum-requires-clause-fits : goal.sum-requires-clause-fits
sum-requires-clause-fits c =
    let bs = c.args.text.now in
    let within : sum_by is_separator bs < 2 ^ 64 = omega (arith, separators_within bs) in
    fits_by_from_yields_list is_separator bs c.map.result (2 ^ 64)
    (YieldsList-from_map _ is_separator
    (YieldsList-at c.map.ensures.source (YieldsList-from_slice bs cc))
    c.map.ensures.closure (λ x r q k. search rules))
    within

pub overflow_add-result : goal.overflow_add-result
overflow_add-result c =
    let bs = c.args.text.now in
    let summed =
    sum_by_from_yields_List is_separator bs c.map.result c.sum.result c.sum.ensures.ran
    (YieldsList-from_map _ is_separator
    (YieldsList-at c.map.ensures.source (YieldsList-from_slice bs cc))
    c.map.ensures.closure (λ x r q k. search rules)) in
    omega (arith, summed, separators_within bs)

pub returns : goal.returns
returns c =
    let bs = c.args.text.now in
    let summed =
    sum_by_from_yields_List is_separator bs c.map.result c.sum.result c.sum.ensures.ran
    (YieldsList-from_map _ is_separator
    (YieldsList-at c.map.ensures.source (YieldsList-from_slice bs cc))
    c.map.ensures.closure (λ x r q k. search rules)) in
    omega (arith, summed, separators_sum bs, one_more bs)
