use Rattle.std.proofs.Common.{Ok, sym, ap, ◌∙◌, subst, w64}
use Rattle.std.proofs.lemmas.Int.{to_z-of_z}
use Rattle.output.specs.declared.lines.AnswerLine.TheVariants.{Position}
use Rattle.output.specs.Buffers.{Wrote}
use Rattle.output.specs.Lines.{line_text}
use Rattle.output.proofs.Reports.{position_none, position_some}
use Rattle.output.proofs.Writes.{nothing}
use Rattle.output.proofs.positions.write_position.Goals as goal

pub returns-then-sum-eq0 : goal.returns-then-sum-eq0
returns-then-sum-eq0 c =
    let out = c.args.out.now in
    subst (λ t. Wrote out t (Ok 0) out) (sym (position_none c.args.contract c.args.sum c.ranges.sum c.if-sum-eq0.true)) (nothing out)

pub returns : goal.returns
returns c =
    let z = c.args.sum in
    let same = ap (λ y. line_text (Position c.args.contract y)) (to_z-of_z w64 z c.ranges.sum) in
    let text = same ∙ sym (position_some c.args.contract z c.if-sum-eq0.false) in
    subst (λ t. Wrote c.args.out.now t c.write.result c.write.new.out) text c.write.ensures
