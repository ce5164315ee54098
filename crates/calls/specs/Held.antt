-- What a checker holds, as a book; and the law over every history of calls that led to it.
use Rattle.measure.specs.declared.measure.Measure.{Ghosts}
use Rattle.std.specs.Prelude.{◌≡◌, ℕ, ◌+◌, ◌≤◌, Bool, true, false, count_by, List, [], ◌∷◌, ◌++◌, length, None, slice_set}
use Rattle.text.specs.Bytes.{Bytes}
use Rattle.text.specs.Rows.{first_fit}
use Rattle.filing.specs.Names.{naming_rows}
use Rattle.calls.specs.FilesAfter.{counted, file_of}
use Rattle.calls.specs.FilesHeld.{with_files}
use Rattle.book.specs.Book.{Book, Call, NameFile, Answer, answer}
use Rattle.calls.specs.declared.checker.Checker.{Checker}
use Rattle.calls.specs.Follows.{book_after, Follows}
use Rattle.calls.specs.Said.{ReplyParts, reply}

-- its lists and files, and the lives of its register in their order there
abbrev pub book_in : {S M : Type 0} → Checker S M → Book
book_in c = record {
  capacity = c.register.room;
  entities = c.entities;
  contracts = c.contracts;
  files = c.files.files;
  lives = c.register.lives;
}

-- the checker with one line more judged and refused in the file n, unless that takes none: all else
-- of it is the same
abbrev pub one_refused_in : {S M : Type 0} → Checker S M → ℕ → Checker S M
one_refused_in c n = record c { files = with_files (slice_set c.files.files n (counted false (file_of c.files.files n))) c.files }

-- places are reserved for so many more files: naming them wants no memory
abbrev pub HasPlaces : {S M : Type 0} → Checker S M → ℕ → Type 0
HasPlaces c more = length c.files.files + more ≤ c.files.places

-- places that were reserved are still
abbrev pub KeepsPlaces : {S M : Type 0} → Checker S M → Checker S M → Type 0
KeepsPlaces was is = (more : ℕ) → HasPlaces was more → HasPlaces is more

-- the checker with so many places for files in all: the rest of it is the same
abbrev pub with_places : {S M : Type 0} → ℕ → Checker S M → Checker S M
with_places n c = record c { files = record c.files { places = n } }

abbrev pub names_file : Call → Bool
names_file (NameFile name) = true
names_file _ = false

-- how many of the calls name a file
abbrev pub names_in : List Call → ℕ
names_in = count_by names_file

-- the call names a file, and no row of naming refuses the name: the only call that may want memory
abbrev pub NamesFile : Call → Type 0
NamesFile c = (name : Bytes) × (c ≡ NameFile name) × (first_fit naming_rows name ≡ None)

module _ {S M : Type 0} (weighing : Ghosts M) where
  -- these calls lead from a new checker with room for so many lives to this one
  abbrev pub Led : ℕ → List Call → Checker S M → Type 0
  Led capacity past c = Follows weighing capacity past (book_in c) c.register.total

  -- for every list of calls that led to `was`, the answer is the book's after them, and they and this call lead to `is`
  abbrev pub Continues : Checker S M → Call → Answer → Checker S M → Type 0
  Continues was c a is =
      (capacity : ℕ) (past : List Call) → Led capacity past was →
      (a ≡ answer (book_after capacity past) c) × Led capacity (past ++ c ∷ []) is

  -- the same of a call whose answer may be the total
  abbrev pub Replies : Checker S M → Call → ReplyParts M → Checker S M → Type 0
  Replies was c r is =
      (capacity : ℕ) (past : List Call) → Led capacity past was →
      (r ≡ reply weighing (book_after capacity past) c) × Led capacity (past ++ c ∷ []) is

  -- every list of calls that led to `was` leads to `is`
  abbrev pub Stays : Checker S M → Checker S M → Type 0
  Stays was is = (capacity : ℕ) (past : List Call) → Led capacity past was → Led capacity past is
