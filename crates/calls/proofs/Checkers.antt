-- A step of what a checker holds continues every history that led to it.
use Rattle.measure.specs.declared.measure.Measure.{Ghosts}
use Rattle.std.proofs.Common.{◌≡◌, Bool, true, false, [], ◌∷◌, ◌++◌, IfOk, IfErr, Ok, Err, Result, sym, ap, ◌∙◌, subst, MatchResult}
use Rattle.std.specs.declared.alloc.AllocError.{AllocError}
use Rattle.calls.specs.FilesHeld.{Filed}
use Rattle.book.specs.Book.{with_files, Call, Answer}
use Rattle.calls.specs.declared.call.Call.{Call as Asked}
use Rattle.calls.specs.declared.checker.Checker.{Checker}
use Rattle.calls.specs.Follows.{book_after}
use Rattle.calls.specs.Held.{book_in, Led, Continues, Replies, Stays}
use Rattle.calls.specs.Said.{Spoken, call_said, answer_said, Answering, replied, reply}
use Rattle.calls.specs.Steps.{Step}
use Rattle.calls.proofs.Histories.{more}

-- what holds where memory was wanting
pub wanting_so : {P : Type 0} (Q : Spoken → Type 0) (had : Bool) (r : Result Spoken AllocError) → MatchResult r Q (λ _. had ≡ false) → (had ≡ false → P) → IfErr r (λ _. P)
wanting_so Q had (Ok x) e so = tt
wanting_so Q had (Err x) e so = so e

module _ {S M : Type 0} (weighing : Ghosts M) where
  pub continues : (was is : Checker S M) (c : Call) (a : Answer) →
      Step weighing (book_in was) was.register.total c a (book_in is) is.register.total → Continues weighing was c a is
  continues was is c a s capacity past f =
      more weighing capacity past c (book_in was) (book_in is) was.register.total is.register.total a
      was.register.unique is.register.unique s f

  -- a step that alters nothing but the files
  pub continues_files : (was : Checker S M) (files : Filed) (c : Call) (a : Answer) →
      Step weighing (book_in was) was.register.total c a (with_files (book_in was) files.files) was.register.total →
      Continues weighing was c a (record was { files = files })
  continues_files was files c a s = continues was (record was { files = files }) c a s

  -- naming a file, where want of memory is no answer
  pub named_so : (was is : Checker S M) (c : Call) (had : Bool) (a : Answer) (r : Result Spoken AllocError) →
      MatchResult r (λ x. (had ≡ true) × (answer_said x ≡ a)) (λ _. had ≡ false) → (had ≡ true → Continues weighing was c a is) → (had ≡ false → Stays weighing was is) →
      IfOk r (λ x. Continues weighing was c (answer_said x) is) × IfErr r (λ _. Stays weighing was is)
  named_so was is c had a (Ok x) e goes stays = (subst (λ y. Continues weighing was c y is) (sym e.1) (goes e.0), tt)
  named_so was is c had a (Err x) e goes stays = (tt, stays e)

  -- a call that is answered, and not told the total: its reply is its answer
  pub replies : {asked call : Asked} {a b : Spoken} {z : Answer} {is next : Checker S M} (was : Checker S M) →
      asked ≡ call → ((y : Answer) (t : M) → replied (call_said call) y t ≡ Answering y) → a ≡ b → answer_said b ≡ z → is ≡ next →
      Continues weighing was (call_said call) z next → Replies weighing was (call_said asked) (Answering (answer_said a)) is
  replies {is = is} was asks answers given says leaves goes capacity past f =
      let p = goes capacity past f in (
        ap (λ x. Answering (answer_said x)) given ∙ ap Answering (says ∙ p.0) ∙ sym (answers _ _)
            ∙ sym (ap (λ x. reply weighing (book_after capacity past) (call_said x)) asks),
        subst (λ x. Led weighing capacity (past ++ call_said x ∷ []) is) (sym asks) (subst (Led weighing capacity (past ++ _ ∷ [])) (sym leaves) p.1),
      )
