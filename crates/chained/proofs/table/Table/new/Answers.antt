use Rattle.chained.proofs.Facts.{emptied_whole, held}
use Rattle.chained.proofs.table.Table.new.Goals as goal

pub invariant_of-result : goal.invariant_of-result
invariant_of-result c = record { held = held (emptied_whole _ _ c.prepare.ensures) }
