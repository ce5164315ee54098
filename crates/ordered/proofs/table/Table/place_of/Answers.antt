use Rattle.std.proofs.Common.{arith}
use Rattle.life.specs.Keys.{rank}
use Rattle.ordered.proofs.Rows.{opened, lower, upper, hit}
use Rattle.ordered.proofs.table.Table.place_of.Goals as goal

pub loop-low-preserved-in-Less : goal.loop-low-preserved-in-Less
unfolding rank
loop-low-preserved-in-Less c =
    (omega arith, omega arith, lower _ _ _ c.args.key.now _ (opened c.args.self.now.held) (omega arith) c.in-Less.ensures.is, c.loop-low.invariant.3)

pub returns-in-Equal : goal.returns-in-Equal
unfolding rank
returns-in-Equal c = (omega arith, hit _ _ _ c.args.key.now _ (opened c.args.self.now.held) (omega arith) c.in-Equal.ensures.is)

pub loop-low-preserved : goal.loop-low-preserved
unfolding rank
loop-low-preserved c =
    (omega arith, omega arith, c.loop-low.invariant.2, upper _ _ _ c.args.key.now _ (opened c.args.self.now.held) (omega arith) c.in-Greater.ensures.is)
