-- The law of a session: each file that is named in it ends there, with one receipt.
use Rattle.measure.specs.declared.measure.Measure.{Ghosts}
use Rattle.std.specs.Prelude.{◌≡◌, ℕ, suc, List, [], ◌∷◌, ◌++◌, length, take, zip}
use Rattle.std.specs.List.{AllByRecursion}
use Rattle.text.specs.Bytes.{Bytes}
use Rattle.filing.specs.Files.{Ended, File}
use Rattle.book.specs.Book.{Book, Call, Withdraw, Close, Answer, Receipt, receipt, answers}
use Rattle.book.specs.FileLaws.{AnsweredCall}
use Rattle.calls.specs.declared.checker.Checker.{Checker}
use Rattle.calls.specs.Follows.{book_after}
use Rattle.calls.specs.Held.{book_in, Led}
use Rattle.session.specs.Held.{GivenLines}
use Rattle.session.specs.Session.{NoFile, lines_of, calls_of_lines}

-- the number of a file with its receipt
abbrev pub FileReceipt : Type 0
FileReceipt = ℕ × Answer

-- the receipt that a call was answered, if it ended a file
abbrev pub given_by : Call → Answer → List FileReceipt
given_by (Withdraw n) (Receipt judged accepted refused) = (n, Receipt judged accepted refused) ∷ []
given_by (Close n) (Receipt judged accepted refused) = (n, Receipt judged accepted refused) ∷ []
given_by _ _ = []

-- the receipts that a run gave, in its order
abbrev pub receipts_given : List AnsweredCall → List FileReceipt
receipts_given [] = []
receipts_given (s ∷ said) = given_by s.0 s.1 ++ receipts_given said

-- the receipts of files, in the order of naming, where the first of them has the number n
abbrev pub receipts_from : ℕ → List File → List FileReceipt
receipts_from n [] = []
receipts_from n (f ∷ fs) = (n, receipt f) ∷ receipts_from (suc n) fs

-- the calls, on a book, lead to these files: first those of before, as they were, and then those
-- that the calls named. Each of these has ended, and the receipts given are theirs: one each, in
-- the order of naming
pub record EndsItsFiles (b : Book) (calls : List Call) (files : List File) : Type 0 where
  pub named : List File
  pub after_others : files ≡ b.files ++ named
  pub each_ended : AllByRecursion (λ f. f.stage ≡ Ended) named
  pub one_receipt :
      receipts_given (zip calls (answers b calls)) ≡ receipts_from (length b.files) named

module _ {S M : Type 0} (weighing : Ghosts M) where
  -- for every list of calls that led to `was`, the calls that these lines make then lead to the
  -- files of `is` in that way
  abbrev pub FilesEnd : Checker S M → List Bytes → Checker S M → Type 0
  FilesEnd was lines is =
      (capacity : ℕ) (past : List Call) → Led weighing capacity past was →
      EndsItsFiles (book_after capacity past)
      (calls_of_lines (book_after capacity past) NoFile lines)
      (book_in is).files

  -- the first lines of an input, up to some place, were given, and the file then in hand was ended
  abbrev pub GivenPart : Checker S M → Bytes → Checker S M → Type 0
  GivenPart was input is =
      (k : ℕ)
      × GivenLines weighing was (take k (lines_of input)) is
      × FilesEnd was (take k (lines_of input)) is
