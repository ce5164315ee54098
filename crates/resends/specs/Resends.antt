-- What is left of a list of calls, and what it does when it is sent again.
use Rattle.std.specs.Prelude.{◌≡◌, ℕ, Bool, true, false, List, [], ◌∷◌, length, Err, Result}
use Rattle.std.specs.List.{AllZip}
use Rattle.measure.specs.declared.measure.Measure.{Ghosts}
use Rattle.life.specs.Lives.{Same}
use Rattle.book.specs.Book.{Book, empty_book, Call, Judge, Answer, Accepted}
use Rattle.book.specs.Laws.{log, survivors, FewerLines}
use Rattle.calls.specs.Follows.{Ran}
use Rattle.resends.specs.declared.sending.ResendError.{ResendError}
use Rattle.resends.specs.declared.sending.ResendError.TheVariants.{OtherCapacity}

-- a judged line is answered 'accepted'
abbrev pub LineAccepted : Call → Answer → Type 0
LineAccepted (Judge n bs) a = a ≡ Accepted
LineAccepted _ a = Unit {0}

-- each call has its answer, and each judged line is accepted
abbrev pub LinesAccepted : List Call → List Answer → Type 0
LinesAccepted [] [] = Unit {0}
LinesAccepted (c ∷ cs) (a ∷ later) = LineAccepted c a × LinesAccepted cs later
LinesAccepted _ _ = ⊥

-- the law of sending again: a new checker was given the calls; what is left are the survivors of that run; and a second new checker, with room for as many lives,
-- was given these. It accepted every judged line among them, and holds what the first holds: entities, contracts, files at the same stage, at each
-- key the same life or none, as many lives, and the same total
pub record Resends {V : Type 0} (weighing : Ghosts V) (capacity : ℕ) (calls : List Call) (said : List Answer) (told : List V) (left : List Call) (again : List Answer) (told_again : List V) (first : Book) (sum : V) (second : Book) (other : V) : Type 0 where
  pub first_run : Ran weighing capacity calls said told first sum
  pub leaves : left ≡ survivors (log (empty_book capacity) calls)
  pub second_run : Ran weighing capacity left again told_again second other
  pub lines_accepted : LinesAccepted left again
  pub same_capacity : second.capacity ≡ first.capacity
  pub same_entities : second.entities ≡ first.entities
  pub same_contracts : second.contracts ≡ first.contracts
  pub like_files : AllZip FewerLines first.files second.files
  pub same_lives : Same second.lives first.lives
  pub same_number : length second.lives ≡ length first.lives
  pub same_total : other ≡ sum

-- whether nothing was sent again since the second store has room for another number of lives
abbrev pub other_capacity : {V : Type 0} → Result V ResendError → Bool
other_capacity (Err OtherCapacity) = true
other_capacity _ = false
