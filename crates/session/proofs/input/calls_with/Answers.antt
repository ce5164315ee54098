use Rattle.std.proofs.Common.{◌≡◌, ◌++◌, [], ◌∷◌, IfOk, OnOk, sym, ap, ◌∙◌, subst, append_assoc}
use Rattle.std.proofs.Common.{append-nil, rules, vec_items, option_map}
use Rattle.book.specs.Book.{empty_book}
use Rattle.calls.specs.Held.{Led}
use Rattle.calls.specs.Said.{call_said, calls_said}
use Rattle.session.specs.Session.{NoFile, ending, call_of_line, lines_of, listed, calls_of_lines}
use Rattle.session.specs.Held.{in_hand, Answers}
use Rattle.session.proofs.Giving.{Given, given_none, given_line, given_all}
use Rattle.session.proofs.Measures.{both_totals}
use Rattle.session.proofs.input.calls_with.Goals as goal
use Rattle.session.proofs.input.calls_with.Goals.{in-Ok, in-Err}

pub loop-line-init : goal.loop-line-init
loop-line-init g c =
    let checker = c.in_ok-checker.checker in
    let parts : lines_of c.args.input.now ≡ lines_of c.into_iter-line-iterator.result.rest.now =
    search rules in (
      [],
      parts,
      λ capacity f.
          subst (λ given. Given both_totals capacity [] [] given checker NoFile) (sym
          (ap calls_said c.new-calls.ensures.items))
          (given_none both_totals capacity [] checker f),
    )

pub loop-line-preserved : goal.loop-line-preserved
loop-line-preserved g c =
    let was = c.loop-line.checker in
    let file = in_hand c.loop-line.file in
    let line = c.in-Some.line.now in
    let is = c.answer-next.new.checker in
    let next = in_hand c.answer-next.result.0 in
    let more = c.next.new.self.rest.now in
    let calls = calls_said (vec_items c.loop-line.calls) in
    let read = c.loop-line.invariant.0 in
    let parts = c.loop-line.invariant.1 ∙ ap (λ ls. read ++ ls) c.in-Some.ensures.steps
    ∙ sym (append_assoc read (line ∷ []) (lines_of more)) in
    let follows : IfOk c.answer-next.result.1
    (λ reply. Answers both_totals was file line reply next is) =
    c.answer-next.ensures.follows in (
      read ++ line ∷ [],
      parts,
      λ capacity f.
          elim c.match-reply.branch [
            | in-Ok w ↦
                let noted : OnOk w.note-noted.result (calls_said (vec_items w.note-noted.new.calls)
                ≡ calls ++ listed (option_map call_said c.call_of-call.result)) =
                w.note-noted.ensures in
                let items = subst (λ r. OnOk r (calls_said (vec_items w.note-noted.new.calls)
                ≡ calls ++ listed (option_map call_said c.call_of-call.result)))
                (sym w.noted-is ∙ c.in_default.is) noted in
                let all : calls_said (vec_items c.match-reply.calls)
                ≡ calls ++ listed (call_of_line file line) =
                ap (λ v. calls_said (vec_items v)) w.calls-is ∙ items
                ∙ ap (λ call. calls ++ listed call) c.call_of-call.ensures in
                subst (λ given. Given both_totals capacity [] (read ++ line ∷ []) given is next)
                (sym all)
                (given_line both_totals capacity [] read calls was is file next line
                (c.loop-line.invariant.2 capacity f)
                (λ before q. let p =
                subst (λ r. IfOk r (λ reply. Answers both_totals was file line reply next is))
                w.in-Ok.is follows capacity before q in (p.1, p.2)))
            | in-Err w ↦ absurd (c.in_default.not-Err _ w.noted-is)
          ],
    )

pub returns : goal.returns
returns g c =
    let room = g.S.Store.room c.args.store.now in
    let calls = calls_said (vec_items c.loop-line.calls) in
    let file = in_hand c.loop-line.file in
    let read = c.loop-line.invariant.0 in
    let parts = c.loop-line.invariant.1 in
    let gives = c.loop-line.invariant.2 in
    let led : Led both_totals room [] c.in_ok-checker.checker = search rules in
    let noted : calls_said c.note-noted-2.new.calls.items ≡ calls ++ listed (ending file) =
    search rules in
    let given = given_all both_totals room [] read calls c.loop-line.checker file (gives room led) in
    let all = parts ∙ ap (λ ls. read ++ ls) c.in-None.ensures.steps.0 ∙ append-nil read in
    noted ∙ sym given ∙ ap (calls_of_lines (empty_book room) NoFile) (sym all)
