use Rattle.std.proofs.Common.{◌≡◌, ℕ, List, IfOk, Ok, Err, Result, sym, ◌∙◌, subst, rules}
use Rattle.text.specs.Bytes.{Bytes}
use Rattle.book.specs.Book.{Call, empty_book, end}
use Rattle.calls.specs.Said.{calls_said}
use Rattle.chained.specs.Table.{room_of}
use Rattle.session.specs.Session.{lines_of, calls_of_input}
use Rattle.session.specs.SessionLaw.{EndsItsFiles}
use Rattle.session.proofs.AnyRoom.{calls_same}
use Rattle.session.proofs.SessionFiles.{files_end}
use Rattle.session.proofs.input.calls_of_input.Goals as goal

-- what holds of a checker with room for m lives holds for any room
any_room : {A E : Type 0} (said : A → List Call) (m : ℕ) (input : Bytes) (r : Result A E) →
    IfOk r (λ calls. said calls ≡ calls_of_input (empty_book m) input) →
    IfOk r (λ calls. (n : ℕ) → said calls ≡ calls_of_input (empty_book n) input)
any_room said m input (Ok calls) e = λ n. e ∙ calls_same m n input
any_room said m input (Err x) e = tt

calls_end : {A E : Type 0} (said : A → List Call) (input : Bytes) (r : Result A E) →
    IfOk r (λ calls. (n : ℕ) → said calls ≡ calls_of_input (empty_book n) input) →
    IfOk r (λ calls. (n : ℕ) →
    EndsItsFiles (empty_book n) (said calls) (end (empty_book n) (said calls)).files)
calls_end said input (Ok calls) e =
    λ n. subst (λ cs. EndsItsFiles (empty_book n) cs (end (empty_book n) cs).files) (sym (e n))
    (files_end (empty_book n) (lines_of input))
calls_end said input (Err x) e = tt

pub returns : goal.returns
returns c =
    let r = c.with_mark.result in
    let input = c.args.input.now in
    let m = room_of c.new-store.result.table.slots.now in
    let made : IfOk r (λ calls. calls_said calls.items ≡ calls_of_input (empty_book m) input) =
    search rules in
    let same = any_room (λ calls. calls_said calls.items) m input r made in
    record { calls = same; files = calls_end (λ calls. calls_said calls.items) input r same }
