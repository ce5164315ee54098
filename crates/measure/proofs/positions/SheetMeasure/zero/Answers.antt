use Rattle.std.proofs.Common.{refl}
use Rattle.measure.proofs.Cells.{sheet_is, zeros_at, zeros_fit}
use Rattle.measure.proofs.positions.SheetMeasure.zero.Goals as goal

pub invariant_of-result : goal.invariant_of-result
invariant_of-result c = record { whole = refl; fit = zeros_fit }

pub returns : goal.returns
returns c = sheet_is _ _ (λ n h. zeros_at n h)
