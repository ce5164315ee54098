use Rattle.std.proofs.Common.{ap, ◌∙◌}
use Rattle.measure.proofs.Halves.{halves}
use Rattle.measure.proofs.both.Both.parts.Goals as goal

pub returns-clause-totals : goal.returns-clause-totals
returns-clause-totals g c ps e =
    let a = g.A.Measure in
    let b = g.B.Measure in
    let all = e ∙ halves a.nil a.joined a.weight b.nil b.joined b.weight ps in
    (ap (λ s. s.first) all, ap (λ s. s.second) all)
