use Rattle.std.proofs.Common.{◌≡◌, ◌-◌, ◌<◌, ◌^◌, eqb, take, sum_by, sym, ap, ◌∙◌, rules, arith}
use Rattle.std.specs.List.{slice_split}
use Rattle.std.proofs.lemmas.Iterator.{YieldsList-from_take, YieldsList-from_map}
use Rattle.std.proofs.lemmas.Iterator.Consumers.{YieldsList-at, sum_by_from_yields_List, fits_by_from_yields_list}
use Rattle.std.proofs.lemmas.Iterator.Splits.{YieldsList-from_slice_split}
use Rattle.text.specs.Rows.{fields}
use Rattle.line.proofs.Starts.{bytes_taken, fields_split, start_sum, taken_within}
use Rattle.line.proofs.offsets.field_offset.Goals as goal

pub sum-requires-clause-fits : goal.sum-requires-clause-fits
sum-requires-clause-fits c =
    let bs = c.args.text.now in
    let n = c.saturating_sub.result in
    let parts = take n (slice_split (λ b. eqb b 59) bs) in
    let within : sum_by bytes_taken parts < 2 ^ 64 = omega (arith, taken_within n bs, ap (λ fs. sum_by bytes_taken (take n fs)) (fields_split bs)) in
    fits_by_from_yields_list bytes_taken parts c.map.result (2 ^ 64)
    (YieldsList-from_map _ bytes_taken
    (YieldsList-at c.map.ensures.source (YieldsList-from_take n
    (YieldsList-at c.take.ensures.source (YieldsList-from_slice_split _ (λ b. eqb b 59) bs c.split.ensures.rest c.split.ensures.done c.split.ensures.closure (λ x b q k. search rules)))
    c.take.ensures.count))
    c.map.ensures.closure (λ x r q k. search rules))
    within

pub returns : goal.returns
returns c =
    let bs = c.args.text.now in
    let n = c.saturating_sub.result in
    let parts = take n (slice_split (λ b. eqb b 59) bs) in
    let same : n ≡ c.args.field - 1 = omega arith in
    let summed =
    sum_by_from_yields_List bytes_taken parts c.map.result c.sum.result c.sum.ensures.ran
    (YieldsList-from_map _ bytes_taken
    (YieldsList-at c.map.ensures.source (YieldsList-from_take n
    (YieldsList-at c.take.ensures.source (YieldsList-from_slice_split _ (λ b. eqb b 59) bs c.split.ensures.rest c.split.ensures.done c.split.ensures.closure (λ x b q k. search rules)))
    c.take.ensures.count))
    c.map.ensures.closure (λ x r q k. search rules)) in
    summed ∙ (λ i. sum_by bytes_taken (take (same i) (sym (fields_split bs) i))) ∙ sym (start_sum c.args.field (fields bs))
