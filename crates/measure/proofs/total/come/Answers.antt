use Rattle.std.proofs.Common.{◌≡◌, sym, ap}
use Rattle.life.specs.Parts.{key_parts, life_parts}
use Rattle.measure.specs.Totals.{while_open, share}
use Rattle.measure.proofs.Sums.{unit_right, total_come}
use Rattle.measure.proofs.total.come.Goals as goal

pub returns-in-Open-clause-sums : goal.returns-in-Open-clause-sums
returns-in-Open-clause-sums g c ps qs e =
    let m = g.M.Measure in
    let k = key_parts c.args.key.now in
    let l = life_parts c.args.life.now in
    let brings : m.weight k l ≡ share m.nil m.weight k l = ap (λ s. while_open m.nil s (m.weight k l)) (sym c.in-Open.is) in
    let then = total_come m.laws m.weight ps k l qs in
    cc

pub returns-in_default-clause-sums : goal.returns-in_default-clause-sums
returns-in_default-clause-sums g c ps qs e =
    let m = g.M.Measure in
    let k = key_parts c.args.key.now in
    let l = life_parts c.args.life.now in
    let brings : m.nil ≡ share m.nil m.weight k l = ap (λ s. while_open m.nil s (m.weight k l)) (sym c.in_default.is) in
    let same = unit_right m.laws c.args.sum.now in
    let then = total_come m.laws m.weight ps k l qs in
    cc
