-- What the code of a session holds and answers, as plain data; and what a line does to its checker.
use Rattle.measure.specs.declared.measure.Measure.{Ghosts}
use Rattle.measure.specs.declared.both.Both.{Both}
use Rattle.measure.specs.declared.sheet.Sheet.{Sheet}
use Rattle.measure.specs.Totals.{total_of}
use Rattle.measure.specs.Words.{no_word, xored, word_weight}
use Rattle.life.specs.Lives.{Lives}
use Rattle.calls.specs.Positions.{TellsPosition}
use Rattle.std.specs.Prelude.{◌≡◌, ⊤, ℕ, ◌<◌, List, ◌++◌, pos, slice_index_or, Some, None, Ok, Err, Option, Result}
use Rattle.text.specs.Bytes.{Bytes}
use Rattle.text.specs.declared.words.Kind.{Kind}
use Rattle.book.specs.Book.{Call, Answer, Refused as RefusedAnswer}
use Rattle.calls.specs.declared.answer.Given.{Given}
use Rattle.calls.specs.declared.checker.Checker.{Checker}
use Rattle.calls.specs.Follows.{book_after}
use Rattle.calls.specs.Held.{Led, NamesFile}
use Rattle.calls.specs.Said.{answer_said}
use Rattle.session.specs.declared.file_in_hand.FileInHand.{FileInHand}
use Rattle.session.specs.declared.file_in_hand.FileInHand.TheVariants as file
use Rattle.session.specs.declared.reply.Reply.{Reply}
use Rattle.session.specs.declared.reply.Reply.TheVariants as reply
use Rattle.session.specs.declared.refusals.Refusal.{Refusal}
use Rattle.session.specs.Refusals.{refusal_number, refusal_field, refusal_offset, told_text, answer_text}
use Rattle.session.specs.Session.{InHand, NoFile, OnlyNamed, Identified, call_of_line}
use Rattle.session.specs.Session.{in_hand_after, answer_to, Said, Answered, AskedPositions}
use Rattle.session.specs.Session.{AskedCheckWord, said_of_line, listed, calls_of_lines}
use Rattle.session.specs.Session.{calls_of_input}

abbrev pub in_hand : FileInHand → InHand
in_hand file.None = NoFile
in_hand (file.Named token) = OnlyNamed token.number
in_hand (file.Identified token) = Identified token.number

abbrev pub told : Result Given Refusal → Answer
told (Ok given) = answer_said (Ok given)
told (Err r) = RefusedAnswer (refusal_number r) (refusal_field r) (refusal_offset r)

abbrev pub said : Reply → Said
said (reply.Told t) = Answered (told t)
said (reply.Positions sums) = AskedPositions
said (reply.CheckWord word) = AskedCheckWord

-- the only call that may want memory
abbrev pub MayWant : Option Call → Type 0
MayWant None = ⊥
MayWant (Some c) = NamesFile c

module _ {S M : Type 0} (weighing : Ghosts M) where
  -- for every list of calls that led to `was`: the answer is the book's to this call, or that of a command that makes none; the file in hand is then
  -- `next`; and the calls and this one lead to `is`
  abbrev pub Does : Checker S M → InHand → Option Call → Answer → InHand → Checker S M → Type 0
  Does was h c a next is =
      (capacity : ℕ) (past : List Call) → Led weighing capacity past was →
      (a ≡ answer_to (book_after capacity past) c) × (next ≡ in_hand_after (book_after capacity past) h c) × Led weighing capacity (past ++ listed c) is

  -- the same of a line and its reply
  abbrev pub Answers : Checker S M → InHand → Bytes → Reply → InHand → Checker S M → Type 0
  Answers was h line reply next is =
      (capacity : ℕ) (past : List Call) → Led weighing capacity past was →
      (said reply ≡ said_of_line (book_after capacity past) h line)
      × (next ≡ in_hand_after (book_after capacity past) h (call_of_line h line))
      × Led weighing capacity (past ++ listed (call_of_line h line)) is

  -- every list of calls that led to `was`, and then the calls that these lines make and the one
  -- that ends the file in hand after them, lead to `is`
  abbrev pub GivenLines : Checker S M → List Bytes → Checker S M → Type 0
  GivenLines was lines is =
      (capacity : ℕ) (past : List Call) → Led weighing capacity past was →
      Led weighing capacity (past ++ calls_of_lines (book_after capacity past) NoFile lines) is

  -- every list of calls that led to `was`, and then the calls that the lines of the input make, lead to `is`
  abbrev pub GivenInput : Checker S M → Bytes → Checker S M → Type 0
  GivenInput was input is =
      (capacity : ℕ) (past : List Call) → Led weighing capacity past was → Led weighing capacity (past ++ calls_of_input (book_after capacity past) input) is

-- the line that tells a reply is the one that the answer should have, of an order or of a trade
abbrev pub HasText : Kind → Reply → Type 0
HasText kind (reply.Told t) = told_text t ≡ answer_text kind (told t)
HasText kind _ = ⊤

-- the check word of lives
abbrev pub check_word_of : Lives → ℕ
check_word_of lives = (total_of no_word xored word_weight lives).word

-- what a reply tells of positions and the check word is true of the book: positions where there is room for at most 65,535 lives
abbrev pub TellsHeld : {S B : Type 0} → Ghosts (Both Sheet B) → Checker S (Both Sheet B) → Reply → Type 0
TellsHeld weighing checker (reply.Told t) = ⊤
TellsHeld weighing checker (reply.Positions sums) = (n : ℕ) → n < 64 → TellsPosition weighing checker n (slice_index_or sums n (pos 0))
TellsHeld weighing checker (reply.CheckWord word) = (capacity : ℕ) (past : List Call) → Led weighing capacity past checker → word ≡ check_word_of (book_after capacity past).lives
