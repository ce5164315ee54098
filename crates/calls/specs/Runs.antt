-- A run of calls on a new checker: the law of runs.
use Rattle.measure.specs.declared.measure.Measure.{Ghosts}
use Rattle.std.specs.Prelude.{◌≡◌, ℕ, ◌↔◌, List, Some, vec_items, zip}
use Rattle.std.specs.List.{AllZip}
use Rattle.life.specs.Lives.{Lives, look}
use Rattle.life.specs.Parts.{KeyParts, LifeParts}
use Rattle.book.specs.Book.{Call, empty_book}
use Rattle.book.specs.FileLaws.{AnsweredCall}
use Rattle.book.specs.Laws.{log, deeds, Tells}
use Rattle.calls.specs.declared.call.Call.{Call as Asked}
use Rattle.calls.specs.declared.completed.CompletedRun.{CompletedRun}
use Rattle.calls.specs.Codes.{code_in, code_due, kind_in, TellsKind}
use Rattle.calls.specs.Faults.{fault_code}
use Rattle.calls.specs.Follows.{Ran}
use Rattle.calls.specs.Held.{book_in}
use Rattle.calls.specs.Said.{Spoken, answer_said, answers_said, calls_said}

-- each call has its answer, and each answer the code that it should have
abbrev pub HaveCodes : List Call → List Spoken → Type 0
HaveCodes = AllZip (λ c a. code_in fault_code a ≡ code_due (kind_in c) (answer_said a))

-- and each refusal of an action tells of what its line tells of, an order or a trade
abbrev pub TellKinds : List Call → List Spoken → Type 0
TellKinds = AllZip (λ c a. TellsKind (kind_in c) a)

-- the law of runs holds of this run of a new checker with room for so many lives; and its refusals
-- have the Agency's codes, and tell of orders and trades as the lines do
pub record HasRun {S M : Type 0} (weighing : Ghosts M) (capacity : ℕ) (calls : List Call) (run : CompletedRun S M) : Type 0 where
  pub ran : Ran weighing capacity calls (answers_said (vec_items run.answers)) (vec_items run.totals) (book_in run.checker) run.checker.register.total
  pub codes : HaveCodes calls (vec_items run.answers)
  pub kinds : TellKinds calls (vec_items run.answers)

-- the calls of a run, each with its answer
abbrev pub answered_calls : {S M : Type 0} → List Asked → CompletedRun S M → List AnsweredCall
answered_calls calls run = zip (calls_said calls) (answers_said (vec_items run.answers))

-- a key has a life after these calls exactly when its accepted lines tell of that life
abbrev pub EachLifeTold : ℕ → List Call → Lives → Type 0
EachLifeTold capacity calls lives =
    (k : KeyParts) (life : LifeParts) → (look k lives ≡ Some life) ↔ Tells (deeds k (log (empty_book capacity) calls)) life
