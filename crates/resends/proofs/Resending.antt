-- A run, what is left of it, and the run of that.
use Rattle.std.proofs.Common.{◌≡◌, ℕ, List, [], ◌∷◌, length, sym, ap, ◌∙◌, subst}
use Rattle.std.specs.List.{AllZip}
use Rattle.measure.specs.declared.measure.Measure.{Ghosts}
use Rattle.life.specs.Lives.{look}
use Rattle.book.specs.Book.{Book, empty_book, Call, Judge, Answer, verdict, answered, answer, after, answers, end}
use Rattle.book.specs.Laws.{log, survivors, Taken, subject, EveryLineAccepted, FewerLines}
use Rattle.book.proofs.Survivors.{survivors_law}
use Rattle.book.proofs.Tidy.{tidy_law}
use Rattle.measure.specs.Totals.{total_in}
use Rattle.calls.specs.Follows.{Agrees, Ran}
use Rattle.resends.specs.Resends.{LineAccepted, LinesAccepted, Resends}

taken_line : (b : Book) (c : Call) → Taken (subject b.contracts c) (verdict b c) → LineAccepted c (answer b c)
taken_line b (Judge n bs) h = ap (answered b (Judge n bs)) h
taken_line b _ h = tt

all_taken : (cs : List Call) (b : Book) → EveryLineAccepted (log b cs) → LinesAccepted cs (answers b cs)
all_taken [] b h = tt
all_taken (c ∷ cs) b h = (taken_line b c h.0, all_taken cs (after b c) h.1)

module _ {V : Type 0} (weighing : Ghosts V) where
  pub resends : (capacity : ℕ) (calls left : List Call) (said again : List Answer) (told told_again : List V) (first second : Book) (sum other : V) →
      Ran weighing capacity calls said told first sum → left ≡ survivors (log (empty_book capacity) calls) → Ran weighing capacity left again told_again second other →
      Resends weighing capacity calls said told left again told_again first sum second other
  resends capacity calls left said again told told_again first second sum other r e q =
      let start : Book = empty_book capacity in
      let law = survivors_law capacity calls in
      let one : Agrees first (end start calls) = r.follows.holds in
      let two : Agrees second (end start left) = q.follows.holds in
      let kept : end start left ≡ end start (survivors (log start calls)) = ap (end start) e in
      let lives : (end start left).lives ≡ (end start calls).lives = ap (λ b. b.lives) kept ∙ law.1.same_lives in
      record {
        first_run = r;
        leaves = e;
        second_run = q;
        lines_accepted = subst (LinesAccepted left) (sym q.same_answers) (all_taken left start (subst (λ cs. EveryLineAccepted (log start cs)) (sym e) law.0));
        same_capacity = two.same_capacity ∙ (tidy_law capacity left).as_made ∙ sym (one.same_capacity ∙ (tidy_law capacity calls).as_made);
        same_entities = two.same_entities ∙ ap (λ b. b.entities) kept ∙ law.1.same_entities ∙ sym one.same_entities;
        same_contracts = two.same_contracts ∙ ap (λ b. b.contracts) kept ∙ law.1.same_contracts ∙ sym one.same_contracts;
        like_files = subst (λ fs. AllZip FewerLines fs second.files) (sym one.same_files) (subst (AllZip FewerLines (end start calls).files) (sym (two.same_files ∙ ap (λ b. b.files) kept)) law.1.like_files);
        same_lives = λ j. two.same_lives j ∙ ap (look j) lives ∙ sym (one.same_lives j);
        same_number = two.same_number ∙ ap length lives ∙ sym one.same_number;
        same_total = q.follows.sums ∙ ap (total_in weighing) lives ∙ sym r.follows.sums;
      }
