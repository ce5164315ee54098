use Rattle.std.proofs.Common.{sym, ap, ◌∙◌, subst}
use Rattle.book.specs.Book.{answer}
use Rattle.calls.specs.Said.{call_said}
use Rattle.resends.specs.Marks.{mark_parts, MarksCall}
use Rattle.resends.proofs.Lines.{other_call, judged_call}
use Rattle.resends.proofs.marks.mark_of.Goals as goal

pub returns-in-Judge : goal.returns-in-Judge
returns-in-Judge c b same e =
    let n = c.in-Judge.field-0 in
    let line = c.in-Judge.line.now in
    let listed = c.args.contracts.now in
    subst (λ x. MarksCall b (call_said x) (mark_parts c.line_mark.result) listed) (sym c.in-Judge.is)
    (judged_call b n line (mark_parts c.line_mark.result) listed same (c.line_mark.ensures b n same (e ∙ ap (λ x. answer b (call_said x)) c.in-Judge.is)))

pub returns-in_default : goal.returns-in_default
returns-in_default c b same e = other_call c.args.call.now b c.args.contracts.now c.in_default.not-AddContract c.in_default.not-Judge same
