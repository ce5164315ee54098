use Rattle.std.proofs.Common.{◌+◌, ◌*◌, ap, ◌∙◌, arith}
use Rattle.text.specs.Forms.{at_most}
use Rattle.text.proofs.Decimals.{no_whole, only_whole, no_part, both_parts, kept, power_there}
use Rattle.text.proofs.numbers.decimal_of.Goals as goal

pub returns-in_err-whole-clause-value : goal.returns-in_err-whole-clause-value
returns-in_err-whole-clause-value c =
    c.from_residual.ensures ∙ no_whole c.args.most c.args.limit _ c.args.text.now c.span_to-w.ensures.value c.in_err-whole.ensures.value

pub returns-then-w-text-clause-value : goal.returns-then-w-text-clause-value
returns-then-w-text-clause-value c =
    c.then_some.ensures ∙ kept _ _ ∙ only_whole c.args.most c.args.limit _ c.args.text.now c.span_to-w.ensures.value _ c.in_ok-whole.ensures.value (omega arith)

pub returns-in_err-part-clause-value : goal.returns-in_err-part-clause-value
returns-in_err-part-clause-value c =
    c.from_residual-in_err-part.ensures
    ∙ no_part c.args.most c.args.limit _ c.args.text.now c.span_to-w.ensures.value _ c.in_ok-whole.ensures.value (omega arith) c.in_err-part.ensures.value

pub returns-clause-value : goal.returns-clause-value
returns-clause-value c =
    c.then_some-2.ensures
    ∙ kept _ _
    ∙ ap (λ p. at_most (c.args.limit * 100000) (c.in_ok-whole.whole * 100000 + c.in_ok-part.part * p)) (power_there _ (omega arith))
    ∙ both_parts c.args.most c.args.limit _ c.args.text.now c.span_to-w.ensures.value _ c.in_ok-whole.ensures.value (omega arith) _ c.in_ok-part.ensures.value
