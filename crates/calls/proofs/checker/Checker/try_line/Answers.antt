use Rattle.std.proofs.Common.{◌≡◌, Ok, Err, sym, refl, ap, ◌∙◌, subst}
use Rattle.text.specs.Bytes.{start}
use Rattle.text.specs.Rows.{fields}
use Rattle.register.specs.Faults.{act_number, act_field}
use Rattle.book.specs.Book.{Refused}
use Rattle.calls.specs.Held.{book_in}
use Rattle.calls.specs.Steps.{Tried}
use Rattle.calls.specs.Codes.{kind_of}
use Rattle.calls.proofs.Codes.{by_file, by_line, by_act, claimed_kind}
use Rattle.calls.proofs.Judging.{file_refused, text_refused, lives_decide}
use Rattle.calls.proofs.checker.Checker.try_line.Goals as goal

pub returns-in_err-takes-clause-tried : goal.returns-in_err-takes-clause-tried
returns-in_err-takes-clause-tried g c =
    let m = g.M.Measure in
    file_refused m (book_in c.args.self.now) c.args.self.now.register.total c.args.number c.args.line.now
    c.from_residual.result c.in_err-takes.field-0.0 c.from_residual.ensures.1 c.in_err-takes.ensures

pub returns-in_err-claim-clause-tried : goal.returns-in_err-claim-clause-tried
returns-in_err-claim-clause-tried g c =
    let m = g.M.Measure in
    text_refused m (book_in c.args.self.now) c.args.self.now.register.total c.args.number c.args.line.now
    c.from_residual-in_err-claim.result c.in_err-claim.field-0.0 c.from_residual-in_err-claim.ensures.1 c.in_ok-takes.ensures c.in_err-claim.ensures

pub returns-in-Ok-clause-tried : goal.returns-in-Ok-clause-tried
returns-in-Ok-clause-tried g c =
    let m = g.M.Measure in
    let claim = c.in_ok-claim.claim in
    let e = c.in-Ok.ensures in
    lives_decide m (book_in c.args.self.now) _ c.args.self.now.register.total c.judge.new.self.total c.args.number c.args.line.now
    claim claim.key.kind (Ok c.in-Ok.field-0) c.in_ok-takes.ensures c.in_ok-claim.ensures refl refl refl e.keeps e.answers e.holds (λ was. e.sums)

pub returns-in-Err-clause-tried : goal.returns-in-Err-clause-tried
returns-in-Err-clause-tried g c =
    let m = g.M.Measure in
    let claim = c.in_ok-claim.claim in
    let e = c.in-Err.ensures in
    let fault = c.in-Err.fault in
    let was = book_in c.args.self.now in
    let is = book_in {S = g.row.S.Denot} (let was = c.args.self.now in record was { register = c.judge.new.self }) in
    let offset : start (act_field fault) (fields c.args.line.now) ≡ c.field_offset.result = ap (λ n. start n (fields c.args.line.now)) (sym c.field.ensures) ∙ sym c.field_offset.ensures in
    subst (λ at. Tried m was c.args.self.now.register.total c.args.number c.args.line.now (Refused (act_number fault) (act_field fault) at) is c.judge.new.self.total) offset
    (lives_decide m was is c.args.self.now.register.total c.judge.new.self.total c.args.number c.args.line.now
    claim claim.key.kind (Err fault) c.in_ok-takes.ensures c.in_ok-claim.ensures refl refl refl e.keeps e.answers e.holds (λ was. e.sums))

pub returns-in_err-takes-clause-code : goal.returns-in_err-takes-clause-code
returns-in_err-takes-clause-code g c =
    by_file (kind_of c.args.line.now) c.from_residual.result c.in_err-takes.field-0.0 c.from_residual.ensures.1

pub returns-in_err-claim-clause-code : goal.returns-in_err-claim-clause-code
returns-in_err-claim-clause-code g c =
    by_line (kind_of c.args.line.now) c.args.self.now.contracts c.args.line.now
    c.from_residual-in_err-claim.result c.in_err-claim.field-0.0 c.from_residual-in_err-claim.ensures.1 c.in_err-claim.ensures

pub returns-in-Err-clause-code : goal.returns-in-Err-clause-code
returns-in-Err-clause-code g c =
    by_act c.args.self.now.contracts c.args.line.now c.in_ok-claim.claim c.in-Err.fault c.in_ok-claim.ensures

pub returns-in-Err-clause-kind : goal.returns-in-Err-clause-kind
returns-in-Err-clause-kind g c = claimed_kind c.args.self.now.contracts c.args.line.now c.in_ok-claim.claim c.in_ok-claim.ensures
