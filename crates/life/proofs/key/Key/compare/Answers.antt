use Rattle.std.proofs.Common.{rules}
use Rattle.life.specs.Keys.{rank}
use Rattle.life.proofs.KeyOrder.{by_kind, by_others, strict}
use Rattle.life.proofs.key.Key.compare.Goals as goal

pub returns-then-ne : goal.returns-then-ne
unfolding rank
returns-then-ne c = record { is = by_kind c.args.self.now c.args.other.now c.cmp.result c.if-ne.ensures c.cmp.ensures; strict = strict }

pub returns-clause-strict : goal.returns-clause-strict
returns-clause-strict c = strict

pub returns-clause-is : goal.returns-clause-is
unfolding rank
returns-clause-is c =
    by_others c.args.self.now c.args.other.now c.cmp-2.result c.then_with.result c.then_with-2.result c.then_with-3.result c.then_with-4.result
    c.if-ne.ensures c.cmp-2.ensures (search rules) (search rules) (search rules) (search rules)
