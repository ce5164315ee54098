use Rattle.std.proofs.Common.{◌≡◌, Ok, Err, sym, refl, ap, ◌∙◌, subst}
use Rattle.std.proofs.lemmas.Result.{err_from_is_err_and}
use Rattle.book.specs.Book.{LookUp}
use Rattle.claims.specs.Faults.{line_fault_code}
use Rattle.calls.specs.Codes.{code_in, code_due, kind_of}
use Rattle.calls.specs.Held.{book_in, Continues}
use Rattle.calls.specs.Said.{finding_answer}
use Rattle.calls.proofs.Checkers.{continues}
use Rattle.calls.proofs.Codes.{of_lines}
use Rattle.calls.proofs.Moves.{look_step}
use Rattle.calls.proofs.checker.Checker.look_up.Goals as goal

pub returns-in_err-claim-clause-follows : goal.returns-in_err-claim-clause-follows
returns-in_err-claim-clause-follows g c =
    let m = g.M.Measure in
    let was = c.args.self.now in
    let p = err_from_is_err_and c.from_residual.result c.from_residual.ensures.1 in
    let x = c.in_err-claim.field-0.0 in
    subst (λ r. Continues m was (LookUp c.args.line.now) (finding_answer r) was) (sym (p.1 ∙ ap Err p.2))
    (continues m was was (LookUp c.args.line.now) (finding_answer (Err x))
    (look_step m (book_in was) was.register.total c.args.line.now (Err x) (Err x) c.in_err-claim.ensures refl))

pub returns-clause-follows : goal.returns-clause-follows
returns-clause-follows g c =
    let m = g.M.Measure in
    let was = c.args.self.now in
    continues m was was (LookUp c.args.line.now) (finding_answer (Ok c.find.result))
    (look_step m (book_in was) was.register.total c.args.line.now (Ok c.in_ok-claim.claim) (Ok c.find.result) c.in_ok-claim.ensures c.find.ensures.found)

pub returns-in_err-claim-clause-code : goal.returns-in_err-claim-clause-code
returns-in_err-claim-clause-code g c =
    let p = err_from_is_err_and c.from_residual.result c.from_residual.ensures.1 in
    let k = kind_of c.args.line.now in
    subst (λ r. code_in line_fault_code r ≡ code_due k (finding_answer r)) (sym (p.1 ∙ ap Err p.2))
    (of_lines k c.args.self.now.contracts c.args.line.now c.in_err-claim.field-0.0 c.in_err-claim.ensures)
