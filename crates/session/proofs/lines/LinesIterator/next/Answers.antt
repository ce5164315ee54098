use Rattle.std.proofs.Common.{◌+◌, ◌<◌, ◌∷◌, length, take, drop, sym, ap, ◌∙◌, rules}
use Rattle.session.specs.Session.{lines_of}
use Rattle.session.proofs.InputLines.{next_line}
use Rattle.session.proofs.lines.LinesIterator.next.Goals as goal

pub returns-clause-steps : goal.returns-clause-steps
returns-clause-steps c =
    let bs = c.args.self.now.rest.now in
    let some : 0 < length bs = search rules in
    let value = sym c.span_to-end.ensures.value in
    next_line bs some ∙ (λ i. take (value i) bs ∷ lines_of (drop (value i + 1) bs)) ∙ ap (λ more. take c.span_to-end.result bs ∷ lines_of more) (sym c.rest_after-self.ensures.rest)
