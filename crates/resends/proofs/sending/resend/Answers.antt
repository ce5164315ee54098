use Rattle.std.proofs.Common.{◌≡◌, ap, ◌∙◌, subst}
use Rattle.std.specs.Prelude.{vec_items}
use Rattle.book.specs.Book.{empty_book, answers}
use Rattle.calls.specs.declared.completed.CompletedRun.{CompletedRun}
use Rattle.calls.specs.Runs.{HasRun}
use Rattle.calls.specs.Said.{calls_said, answers_said}
use Rattle.resends.specs.Marks.{marks_in, kept_calls}
use Rattle.resends.proofs.Marking.{kept_of_run}
use Rattle.resends.proofs.Resending.{resends}
use Rattle.resends.proofs.sending.resend.Goals as goal

pub returns-clause-law : goal.returns-clause-law
returns-clause-law g c =
    let capacity = g.S.Store.room c.args.store.now in
    let calls = calls_said c.args.calls.now in
    let left = calls_said c.in_ok-left.left.items in
    let first : HasRun g.M.Measure capacity calls c.in_ok-first.first = c.in_ok-first.ensures.runs in
    let same : g.T.Store.room c.args.other.now ≡ capacity = cc in
    let again : HasRun g.M.Measure (g.T.Store.room c.args.other.now) (calls_said c.as_slice-3.result.now) c.in_ok-second.second = c.in_ok-second.ensures.runs in
    let second : HasRun g.M.Measure capacity left c.in_ok-second.second = subst (λ cs. HasRun g.M.Measure capacity cs c.in_ok-second.second) (ap calls_said c.as_slice-3.ensures.value) (subst (λ n. HasRun g.M.Measure n (calls_said c.as_slice-3.result.now) c.in_ok-second.second) same again) in
    let told : answers_said c.as_slice.result.now ≡ answers (empty_book capacity) calls = ap answers_said c.as_slice.ensures.value ∙ ap (λ (run : CompletedRun _ _). answers_said (vec_items run.answers)) c.first.view_is ∙ first.ran.same_answers in
    let kept : left ≡ kept_calls calls (marks_in c.in_ok-marks.marks.items) = c.in_ok-left.ensures ∙ ap (λ ms. kept_calls calls (marks_in ms)) c.as_slice-2.ensures.value in
    resends g.M.Measure capacity calls left _ _ _ _ _ _ _ _ first.ran (kept_of_run (empty_book capacity) calls left (marks_in c.in_ok-marks.marks.items) (c.in_ok-marks.ensures capacity told) kept) second.ran
