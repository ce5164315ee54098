use Rattle.std.proofs.Common.{◌∙◌, arith}
use Rattle.std.proofs.lemmas.Bool.Decides.{nat_tests}
use Rattle.life.specs.Keys.{alike}
use Rattle.life.proofs.KeyOrder.{eq_is, other_word}
use Rattle.life.proofs.key.Key.same.Goals as goal

pub returns-then-self-other : goal.returns-then-self-other
unfolding alike
returns-then-self-other c = let e = eq_is c.args.self.now c.args.other.now in cc

pub returns-else-self-other : goal.returns-else-self-other
returns-else-self-other c =
    let l = c.if-self-other.false in
    grind (arith, nat_tests) ∙ other_word c.args.self.now c.args.other.now l
