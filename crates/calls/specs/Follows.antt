-- What is held after a list of calls on a new checker: what the book holds after them.
use Rattle.measure.specs.declared.measure.Measure.{Ghosts}
use Rattle.std.specs.Prelude.{◌≡◌, ℕ, List, length}
use Rattle.life.specs.Lives.{Same}
use Rattle.measure.specs.Totals.{total_in}
use Rattle.book.specs.Book.{Book, empty_book, Call, Answer, answers, end}
use Rattle.book.specs.Totals.{totals}

-- the book after these calls, from the empty one with room for so many lives
abbrev pub book_after : ℕ → List Call → Book
book_after capacity past = end (empty_book capacity) past

-- what is held is what the book holds: the same entities, contracts and files, each in their order; and at each key the same life or none, and
-- as many lives, in whatever order
pub record Agrees (here book : Book) : Type 0 where
  pub same_capacity : here.capacity ≡ book.capacity
  pub same_entities : here.entities ≡ book.entities
  pub same_contracts : here.contracts ≡ book.contracts
  pub same_files : here.files ≡ book.files
  pub same_lives : Same here.lives book.lives
  pub same_number : length here.lives ≡ length book.lives

module _ {V : Type 0} (weighing : Ghosts V) where
  -- the joined weights of the book's open lives
  abbrev pub book_total : Book → V
  book_total b = total_in weighing b.lives

  -- the calls `past` lead from a new checker with room for so many lives to one that holds this and has this total
  pub record Follows (capacity : ℕ) (past : List Call) (here : Book) (sum : V) : Type 0 where
    pub holds : Agrees here (book_after capacity past)
    pub sums : sum ≡ book_total (book_after capacity past)

  -- the law of runs: a new checker with room for so many lives was given these calls. Its answers, and the totals that it was asked for, are the book's;
  -- it holds what the book holds, and its total is the joined weights of the book's open lives
  pub record Ran (capacity : ℕ) (calls : List Call) (said : List Answer) (told : List V) (here : Book) (sum : V) : Type 0 where
    pub same_answers : said ≡ answers (empty_book capacity) calls
    pub same_totals : told ≡ totals weighing.nil weighing.joined weighing.weight (empty_book capacity) calls
    pub follows : Follows capacity calls here sum
