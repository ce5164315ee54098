-- The laws over runs of the book, of a checker that ran.
use Rattle.measure.specs.declared.measure.Measure.{Ghosts}
use Rattle.std.proofs.Common.{◌≡◌, ℕ, ◌↔◌, List, Some, zip, sym, subst}
use Rattle.book.specs.Book.{Book, empty_book, Call, Answer, answers}
use Rattle.book.specs.FileLaws.{FilesCount}
use Rattle.book.specs.Laws.{log, deeds, Tells}
use Rattle.book.proofs.Deeds.{life_law}
use Rattle.book.proofs.FileCounts.{files_law}
use Rattle.calls.specs.Follows.{Ran}
use Rattle.calls.specs.Runs.{EachLifeTold}

module _ {V : Type 0} (weighing : Ghosts V) (capacity : ℕ) (calls : List Call) (said : List Answer) (told : List V) (here : Book) (sum : V)
    (ran : Ran weighing capacity calls said told here sum) where
  pub files_counted : FilesCount (zip calls said) here.files
  files_counted =
      subst (λ as-told. FilesCount (zip calls as-told) here.files) (sym ran.same_answers)
      (subst (FilesCount (zip calls (answers (empty_book capacity) calls))) (sym ran.follows.holds.same_files) (files_law capacity calls))

  pub lives_told : EachLifeTold capacity calls here.lives
  lives_told k life =
      subst (λ o. (o ≡ Some life) ↔ Tells (deeds k (log (empty_book capacity) calls)) life) (sym (ran.follows.holds.same_lives k)) (life_law capacity calls k life)
