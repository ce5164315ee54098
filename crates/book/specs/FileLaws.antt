-- The law of files: what a run's calls and answers tell of its files.
use Rattle.std.specs.Prelude.{◌≡◌, ℕ, ◌≤◌, Bool, true, false, not, ◌&&◌, ◌||◌, List, ◌∷◌, ◌++◌, count_by, zip, ◌==◌}
use Rattle.filing.specs.Files.{File}
use Rattle.book.specs.Book.{empty_book, file_of, Call, Withdraw, Close, Judge, Answer, Accepted, Refused, Receipt, answers, end}

-- a call with its answer
abbrev pub AnsweredCall : Type 0
AnsweredCall = Call × Answer

-- ---- Of one call

abbrev pub judges_in : ℕ → Call → Bool
judges_in n (Judge m bs) = m == n
judges_in n _ = false

abbrev pub ends_file : ℕ → Call → Bool
ends_file n (Withdraw m) = m == n
ends_file n (Close m) = m == n
ends_file n _ = false

-- the line was not judged: its file takes none (66), or has as many as may be (9)
abbrev pub not_judged : Answer → Bool
not_judged (Refused number field offset) = number == 66 || number == 9
not_judged _ = false

abbrev pub is_accepted : Answer → Bool
is_accepted Accepted = true
is_accepted _ = false

abbrev pub is_receipt : Answer → Bool
is_receipt (Receipt judged accepted refused) = true
is_receipt _ = false

-- ---- Of a file

-- a line was judged in the file
abbrev pub was_judged : ℕ → AnsweredCall → Bool
was_judged n s = judges_in n s.0 && not (not_judged s.1)

-- and accepted
abbrev pub was_accepted : ℕ → AnsweredCall → Bool
was_accepted n s = judges_in n s.0 && is_accepted s.1

-- or refused
abbrev pub was_refused : ℕ → AnsweredCall → Bool
was_refused n s = was_judged n s && not (is_accepted s.1)

-- the file was ended, and its receipt given
abbrev pub was_ended : ℕ → AnsweredCall → Bool
was_ended n s = ends_file n s.0 && is_receipt s.1

-- ---- The law

-- these are the numbers of lines judged, accepted and refused in the file
pub record Counts (n : ℕ) (said : List AnsweredCall) (judged accepted refused : ℕ) : Type 0 where
  pub all_judged : judged ≡ count_by (was_judged n) said
  pub all_accepted : accepted ≡ count_by (was_accepted n) said
  pub all_refused : refused ≡ count_by (was_refused n) said

-- each file has the counts of the lines judged in it; a file ends at most once; the receipt of a
-- closed file has the counts of the lines judged in it before, and that of a withdrawn one is three
-- zeros
pub record FilesCount (said : List AnsweredCall) (files : List File) : Type 0 where
  pub each_line : (n : ℕ) → Counts n said (file_of files n).judged (file_of files n).accepted (file_of files n).refused
  pub one_end : (n : ℕ) → count_by (was_ended n) said ≤ 1
  pub closed : (n judged accepted refused : ℕ) (before later : List AnsweredCall) → said ≡ before ++ (Close n, Receipt judged accepted refused) ∷ later →
      Counts n before judged accepted refused
  pub withdrawn : (n judged accepted refused : ℕ) (before later : List AnsweredCall) → said ≡ before ++ (Withdraw n, Receipt judged accepted refused) ∷ later →
      (judged ≡ 0) × (accepted ≡ 0) × (refused ≡ 0)

abbrev pub FilesLaw : Type 0
FilesLaw = (capacity : ℕ) (calls : List Call) → FilesCount (zip calls (answers (empty_book capacity) calls)) (end (empty_book capacity) calls).files
