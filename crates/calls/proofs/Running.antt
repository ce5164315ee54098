-- A list of calls, one after another.
use Rattle.measure.specs.declared.measure.Measure.{Ghosts}
use Rattle.std.proofs.Common.{◌≡◌, ℕ, ◌+◌, ◌<◌, ◌≤◌, List, [], ◌∷◌, ◌++◌, length, get_or, take, sym, refl, ap, ◌∙◌, subst, append-nil, arith}
use mathlib.Core.List.{map-append}
use Rattle.std.proofs.lemmas.List.{take_more, take_all}
use Rattle.book.specs.Book.{Book, empty_book, Call, Total, Answer, Accepted, after, answer, answers, end}
use Rattle.book.specs.Totals.{telling, totals}
use Rattle.book.proofs.Runs.{answers_append}
use Rattle.calls.specs.declared.call.Call.{Call as Asked}
use Rattle.calls.specs.Follows.{book_after, book_total, Follows, Ran}
use Rattle.calls.specs.Said.{Spoken, call_said, calls_said, answer_said, answers_said, Answering, Totalling, replied, reply}

telling_append : {V : Type 0} (t : V) (c : Call) (xs ys : List V) → telling t c (xs ++ ys) ≡ telling t c xs ++ ys
telling_append t Total xs ys = refl
telling_append t _ xs ys = refl

module _ {V : Type 0} (weighing : Ghosts V) where
  totals_append : (xs ys : List Call) (b : Book) → totals weighing.nil weighing.joined weighing.weight b (xs ++ ys) ≡ totals weighing.nil weighing.joined weighing.weight b xs ++ totals weighing.nil weighing.joined weighing.weight (end b xs) ys
  totals_append [] ys b = refl
  totals_append (c ∷ xs) ys b = ap (telling (book_total weighing b) c) (totals_append xs ys (after b c)) ∙ telling_append _ c _ _

  -- one call more of a run
  pub run_more : (capacity : ℕ) (past : List Call) (c : Call) (said : List Answer) (told : List V) (a : Answer) (was is : Book) (old new : V) →
      Ran weighing capacity past said told was old →
      (a ≡ answer (book_after capacity past) c) × Follows weighing capacity (past ++ c ∷ []) is new →
      Ran weighing capacity (past ++ c ∷ []) (said ++ a ∷ []) (told ++ telling old c []) is new
  run_more capacity past c said told a was is old new r s = record {
    same_answers = ap (λ xs. xs ++ a ∷ []) r.same_answers ∙ ap (λ y. answers (empty_book capacity) past ++ y ∷ []) s.0 ∙ sym (answers_append past (c ∷ []) (empty_book capacity));
    same_totals = ap (λ xs. xs ++ telling old c []) r.same_totals ∙ ap (λ t. totals weighing.nil weighing.joined weighing.weight (empty_book capacity) past ++ telling t c []) r.follows.sums ∙ sym (totals_append past (c ∷ []) (empty_book capacity));
    follows = s.1;
  }

-- ---- What a reply tells of the call

module _ {V : Type 0} where
  total_apart : (a x : Answer) (t : V) → Answering x ≡ Totalling t → ⊥
  total_apart a x t e = let z : ◌≡◌ {A = ℕ} 0 1 = cc in omega arith

  -- a call that is answered is none for the total
  answering : (c : Call) (x a : Answer) (t : V) → Answering x ≡ replied c a t → (x ≡ a) × ((s : V) → telling s c [] ≡ [])
  answering Total x a t e = absurd (total_apart a x t e)
  answering _ x a t e = (cc, λ s. refl)

  -- a call that is told a total asked for it
  totalling : (c : Call) (x : V) (a : Answer) (t : V) → Totalling x ≡ replied c a t → (c ≡ Total) × (x ≡ t)
  totalling Total x a t e = (refl, cc)
  totalling _ x a t e = absurd (total_apart a a x (sym e))

module _ {V : Type 0} (weighing : Ghosts V) (capacity : ℕ) (past : List Call) (c : Call) (said : List Spoken) (told : List V) (was is : Book) (old new : V) where
  -- a run that goes on with an answer
  pub goes_answered : (x : Spoken) (next : List Spoken) → next ≡ said ++ x ∷ [] → Ran weighing capacity past (answers_said said) told was old →
      (Answering (answer_said x) ≡ reply weighing (book_after capacity past) c) × Follows weighing capacity (past ++ c ∷ []) is new →
      Ran weighing capacity (past ++ c ∷ []) (answers_said next) told is new
  goes_answered x next e r s =
      let w = answering c (answer_said x) (answer (book_after capacity past) c) (book_total weighing (book_after capacity past)) s.0 in
      let more = run_more weighing capacity past c (answers_said said) told (answer_said x) was is old new r (w.0, s.1) in
      subst (λ xs. Ran weighing capacity (past ++ c ∷ []) xs told is new) (sym (ap answers_said e ∙ map-append answer_said said (x ∷ [])))
      (subst (λ ts. Ran weighing capacity (past ++ c ∷ []) (answers_said said ++ answer_said x ∷ []) ts is new) (ap (λ ts. told ++ ts) (w.1 old) ∙ append-nil told) more)

  -- and one that goes on with a total
  pub goes_totalled : (t : V) (x : Spoken) (next : List Spoken) (later : List V) → answer_said x ≡ Accepted → next ≡ said ++ x ∷ [] → later ≡ told ++ t ∷ [] → Ran weighing capacity past (answers_said said) told was old →
      (Totalling t ≡ reply weighing (book_after capacity past) c) × Follows weighing capacity (past ++ c ∷ []) is new →
      Ran weighing capacity (past ++ c ∷ []) (answers_said next) later is new
  goes_totalled t x next later ok e d r s =
      let w = totalling c t (answer (book_after capacity past) c) (book_total weighing (book_after capacity past)) s.0 in
      let a : answer_said x ≡ answer (book_after capacity past) c = ok ∙ ap (answer (book_after capacity past)) (sym w.0) in
      let more = run_more weighing capacity past c (answers_said said) told (answer_said x) was is old new r (a, s.1) in
      let told-so : told ++ telling old c [] ≡ later = ap (λ y. told ++ telling old y []) w.0 ∙ ap (λ v. told ++ v ∷ []) (r.follows.sums ∙ sym w.1) ∙ sym d in
      subst (λ xs. Ran weighing capacity (past ++ c ∷ []) xs later is new) (sym (ap answers_said e ∙ map-append answer_said said (x ∷ [])))
      (subst (λ ts. Ran weighing capacity (past ++ c ∷ []) (answers_said said ++ answer_said x ∷ []) ts is new) told-so more)

-- ---- The calls so far

pub said_more : (cs : List Asked) (i : ℕ) (d : Asked) → i < length cs → calls_said (take i cs) ++ call_said (get_or cs i d) ∷ [] ≡ calls_said (take (i + 1) cs)
said_more cs i d h = sym (ap calls_said (take_more cs i d h) ∙ map-append call_said (take i cs) (get_or cs i d ∷ []))

pub said_all : (cs : List Asked) (i : ℕ) → length cs ≤ i → calls_said (take i cs) ≡ calls_said cs
said_all cs i h = ap calls_said (take_all i cs h)
