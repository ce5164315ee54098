-- A session: lines of input given to one checker, one after another, with at most one file in hand.
use Rattle.std.specs.Prelude.{ℕ, cond, List, [], ◌∷◌, ◌++◌, length, is_some, Some, None, Option}
use Rattle.text.specs.Bytes.{Bytes, then, pieces}
use Rattle.text.specs.Rows.{first_fit}
use Rattle.commands.specs.Commands.{CommandParts, command_rows, command_form}
use Rattle.commands.specs.Commands as command
use Rattle.text.specs.declared.words.Kind.{Kind}
use Rattle.text.specs.declared.words.Kind.TheVariants.{Order}
use Rattle.calls.specs.Codes.{kind_of}
use Rattle.book.specs.Book.{Book, Call, AddEntity, AddContract, NameFile, Identify, Withdraw, Close, Judge, Answer, Refused, verdict, after, answer}

-- ---- The file in hand

-- none, one that is only named, or an identified one, by its number
pub data InHand : Type 0 where
  NoFile : InHand
  OnlyNamed Identified : ℕ → InHand

-- ---- The call that a command makes, if it goes with the file in hand

-- a file is named where none is in hand
abbrev pub naming : InHand → Bytes → Option Call
naming NoFile name = Some (NameFile name)
naming _ name = None

-- and identified where it is only named
abbrev pub identifying : InHand → Bytes → Option Call
identifying (OnlyNamed n) code = Some (Identify n code)
identifying _ code = None

-- lines are judged in an identified file
abbrev pub judging : InHand → Bytes → Option Call
judging (Identified n) line = Some (Judge n line)
judging _ line = None

-- a file that is only named is withdrawn, and an identified one closed
abbrev pub ending : InHand → Option Call
ending NoFile = None
ending (OnlyNamed n) = Some (Withdraw n)
ending (Identified n) = Some (Close n)

-- what is asked of positions and of the check word is no call
abbrev pub call_by : InHand → CommandParts → Option Call
call_by h (command.AddEntity code) = Some (AddEntity code)
call_by h (command.AddContract text) = Some (AddContract text)
call_by h (command.NameFile name) = naming h name
call_by h (command.Identify code) = identifying h code
call_by h (command.Judge line) = judging h line
call_by h command.EndFile = ending h
call_by h _ = None

-- a line is a command where no row refuses it
abbrev pub command_in : Bytes → Option CommandParts
command_in line = cond (is_some (first_fit command_rows line)) None (command_form line)

abbrev pub call_of_line : InHand → Bytes → Option Call
call_of_line h line = then (command_in line) (call_by h)

-- what a command tells of: an order or a trade; commands without a report line have the same codes for both
abbrev pub kind_asked : CommandParts → Kind
kind_asked (command.Judge line) = kind_of line
kind_asked _ = Order

abbrev pub kind_of_command : Option CommandParts → Kind
kind_of_command None = Order
kind_of_command (Some command) = kind_asked command

abbrev pub kind_of_line : Bytes → Kind
kind_of_line line = kind_of_command (command_form line)

-- ---- What follows a call, or none

-- naming takes a file in hand, and ending it lets it go; a refusal to name or to identify leaves what was in hand
abbrev pub takes_in_hand : Book → InHand → Call → InHand → InHand
takes_in_hand b h c next = cond (is_some (verdict b c)) h next

abbrev pub in_hand_after_call : Book → InHand → Call → InHand
in_hand_after_call b h (NameFile bs) = takes_in_hand b h (NameFile bs) (OnlyNamed (length b.files))
in_hand_after_call b h (Identify n bs) = takes_in_hand b h (Identify n bs) (Identified n)
in_hand_after_call b h (Withdraw n) = NoFile
in_hand_after_call b h (Close n) = NoFile
in_hand_after_call b h _ = h

abbrev pub in_hand_after : Book → InHand → Option Call → InHand
in_hand_after b h None = h
in_hand_after b h (Some c) = in_hand_after_call b h c

abbrev pub book_with : Book → Option Call → Book
book_with b None = b
book_with b (Some c) = after b c

-- a command that makes no call is refused
abbrev pub answer_to : Book → Option Call → Answer
answer_to b None = Refused 66 0 0
answer_to b (Some c) = answer b c

-- ---- Lines

-- what is said of a line: the answer to its call or a refusal, or what was asked of the positions and of the check word
pub data Said : Type 0 where
  Answered : Answer → Said
  AskedPositions AskedCheckWord : Said

abbrev pub said_of : Book → InHand → CommandParts → Said
said_of b h command.Positions = AskedPositions
said_of b h command.CheckWord = AskedCheckWord
said_of b h c = Answered (answer_to b (call_by h c))

-- a line is refused by the first row that fits it, and else as its command is answered
abbrev pub said_or : Book → InHand → Option CommandParts → Option (ℕ × ℕ) → Said
said_or b h None None = Answered (Refused 66 0 0)
said_or b h (Some command) None = said_of b h command
said_or b h command (Some r) = Answered (Refused r.0 r.1 0)

abbrev pub said_of_line : Book → InHand → Bytes → Said
said_of_line b h line = said_or b h (command_form line) (first_fit command_rows line)

abbrev pub listed : Option Call → List Call
listed None = []
listed (Some c) = c ∷ []

-- the calls that lines make one after another, and the one that ends the file in hand at last
abbrev pub calls_of_lines : Book → InHand → List Bytes → List Call
calls_of_lines b h [] = listed (ending h)
calls_of_lines b h (line ∷ lines) = listed (call_of_line h line) ++ calls_of_lines (book_with b (call_of_line h line)) (in_hand_after b h (call_of_line h line)) lines

-- the lines of an input: a line feed ends each, and what comes after the last is a line where it has any byte
abbrev pub unless_empty : Bytes → List Bytes
unless_empty [] = []
unless_empty (b ∷ bs) = (b ∷ bs) ∷ []

abbrev pub without_empty_end : List Bytes → List Bytes
without_empty_end [] = []
without_empty_end (line ∷ []) = unless_empty line
without_empty_end (line ∷ next ∷ lines) = line ∷ without_empty_end (next ∷ lines)

abbrev pub lines_of : Bytes → List Bytes
lines_of input = without_empty_end (pieces 10 input)

abbrev pub calls_of_input : Book → Bytes → List Call
calls_of_input b input = calls_of_lines b NoFile (lines_of input)
