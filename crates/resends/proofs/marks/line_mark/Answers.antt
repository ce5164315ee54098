use Rattle.std.proofs.Common.{sym, ◌∙◌}
use Rattle.resends.proofs.Lines.{refused_line, given_accepted, accepted_line, no_claim}
use Rattle.resends.proofs.marks.line_mark.Goals as goal

pub returns-then-is_err : goal.returns-then-is_err
returns-then-is_err c b n same e = refused_line b n c.args.line.now c.args.answer.now (sym c.is_err.ensures.value ∙ c.if-is_err.true) e

pub returns-in-Ok : goal.returns-in-Ok
returns-in-Ok c b n same e =
    let accepted = given_accepted b n c.args.line.now c.args.answer.now (sym c.is_err.ensures.value ∙ c.if-is_err.false) e in
    accepted_line b n c.args.line.now c.args.contracts.now c.in-Ok.claim same accepted c.in-Ok.ensures

pub returns-in-Err : goal.returns-in-Err
returns-in-Err c b n same e =
    let accepted = given_accepted b n c.args.line.now c.args.answer.now (sym c.is_err.ensures.value ∙ c.if-is_err.false) e in
    absurd (no_claim b n c.args.line.now c.args.contracts.now c.in-Err.field-0 same accepted c.in-Err.ensures)
