-- One call on what is held.
use Rattle.measure.specs.declared.measure.Measure.{Ghosts}
use Rattle.std.specs.Prelude.{◌≡◌, ℕ}
use Rattle.text.specs.Bytes.{Bytes}
use Rattle.life.specs.Lives.{Same}
use Rattle.book.specs.Book.{Book, Call, Judge, Answer, answer, after}
use Rattle.calls.specs.Follows.{book_total}

-- a call is answered as the book that is held answers it; what is held afterwards is what that book is then, its lives in whatever order; and a
-- total that was right stays right
pub record Step {V : Type 0} (weighing : Ghosts V) (was : Book) (old : V) (c : Call) (a : Answer) (is : Book) (new : V) : Type 0 where
  pub says : a ≡ answer was c
  pub keeps_capacity : is.capacity ≡ was.capacity
  pub makes_entities : is.entities ≡ (after was c).entities
  pub makes_contracts : is.contracts ≡ (after was c).contracts
  pub makes_files : is.files ≡ (after was c).files
  pub makes_lives : Same is.lives (after was c).lives
  pub keeps_sum : old ≡ book_total weighing was → new ≡ book_total weighing is

-- a line was tried and has yet to be counted: it is answered as the book answers it, and the lives are as the book has them then; the lists and
-- files are as they were
pub record Tried {V : Type 0} (weighing : Ghosts V) (was : Book) (old : V) (n : ℕ) (bs : Bytes) (a : Answer) (is : Book) (new : V) : Type 0 where
  pub says : a ≡ answer was (Judge n bs)
  pub keeps_capacity : is.capacity ≡ was.capacity
  pub keeps_entities : is.entities ≡ was.entities
  pub keeps_contracts : is.contracts ≡ was.contracts
  pub keeps_files : is.files ≡ was.files
  pub makes_lives : Same is.lives (after was (Judge n bs)).lives
  pub keeps_sum : old ≡ book_total weighing was → new ≡ book_total weighing is
