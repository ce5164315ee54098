use Rattle.life.specs.Parts.{key_parts, life_parts}
use Rattle.measure.proofs.Sums.{total_replace}
use Rattle.measure.proofs.total.replace.Goals as goal

pub returns-clause-sums : goal.returns-clause-sums
returns-clause-sums g c ps f u found is e =
    let m = g.M.Measure in
    let there = total_replace m.laws m.weight (key_parts c.args.key.now) (life_parts c.args.old.now) (life_parts c.args.new.now) f ps u found is in
    cc
