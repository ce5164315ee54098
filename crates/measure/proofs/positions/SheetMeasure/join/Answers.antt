use Rattle.std.proofs.Common.{arith}
use Rattle.measure.proofs.Cells.{sheet_is}
use Rattle.measure.proofs.positions.SheetMeasure.join.Goals as goal

pub returns : goal.returns
returns c = sheet_is _ _ (λ n h. c.loop-i.invariant.2 n (omega arith))
