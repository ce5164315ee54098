use Rattle.std.proofs.Common.{arith}
use Rattle.measure.proofs.Cells.{sheet_is}
use Rattle.measure.proofs.positions.SheetMeasure.invert.Goals as goal

pub returns : goal.returns
returns c = sheet_is _ _ (λ n h. c.loop-cell.invariant.2 n (omega arith))
