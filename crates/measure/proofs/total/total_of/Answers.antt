use Rattle.std.proofs.Common.{◌≡◌, ap, ◌∙◌, take_all}
use Rattle.life.specs.Lives.{plain}
use Rattle.measure.specs.Totals.{total_in}
use Rattle.measure.proofs.Sums.{total_same}
use Rattle.measure.proofs.total.total_of.Goals as goal

pub returns-clause-unordered : goal.returns-clause-unordered
returns-clause-unordered g c ps u w s =
    let m = g.M.Measure in
    let lives = plain c.args.lives.now in
    let done : c.loop-key.sum ≡ total_in m lives = c.loop-key.invariant ∙ ap (λ xs. total_in m (plain xs)) (take_all _ _ c.loop-key-test.false) in
    done ∙ total_same m.laws m.weight lives ps u w s
