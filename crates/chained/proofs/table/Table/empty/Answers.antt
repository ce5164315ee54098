use Rattle.std.proofs.Common.{refl}
use Rattle.chained.proofs.Facts.{emptied_whole, held, room_to}
use Rattle.chained.proofs.table.Table.empty.Goals as goal

pub invariant_of-self : goal.invariant_of-self
invariant_of-self c = record { held = held (emptied_whole _ _ c.prepare.ensures) }

pub returns : goal.returns
returns c = record { count = refl; room = room_to _ _ c.prepare.ensures.size; table = c.prepare.ensures }
