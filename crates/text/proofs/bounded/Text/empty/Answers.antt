use Rattle.std.proofs.Common.{replicate, ap, arith}
use Rattle.std.proofs.lemmas.List.{length-replicate}
use Rattle.text.proofs.bounded.Text.empty.Goals as goal

pub invariant_of-result : goal.invariant_of-result
invariant_of-result g c = record { ok = (omega arith, length-replicate g.row.N 0, ap (λ m. replicate m 0) (omega arith)) }
