-- The published number, field, offset and code of a refused line of input; and the lines that answer calls.
use Rattle.std.specs.Prelude.{ℕ, Some, None, Ok, Err, codes, Option, Result}
use Rattle.text.specs.Bytes.{Bytes}
use Rattle.text.specs.declared.words.Kind.{Kind}
use Rattle.commands.specs.Commands.{command_number}
use Rattle.book.specs.Book as book
use Rattle.book.specs.Book.{Answer}
use Rattle.calls.specs.Codes.{agency_code}
use Rattle.calls.specs.declared.answer.Given.{Given}
use Rattle.calls.specs.declared.answer.Given.TheVariants.{Receipt}
use Rattle.output.specs.Lines.{text_of_words, accepted_words, refused_words, receipt_words}
use Rattle.calls.specs.Faults.{fault_number, fault_field, fault_offset, fault_code}
use Rattle.session.specs.declared.refusals.Refusal.{Refusal}
use Rattle.session.specs.declared.refusals.Refusal.TheVariants.{Unread, OutOfPlace, Refused}

abbrev pub refusal_number : Refusal → ℕ
refusal_number (Unread e) = command_number e
refusal_number OutOfPlace = 66
refusal_number (Refused e) = fault_number e

-- 0 for none
abbrev pub refusal_field : Refusal → ℕ
refusal_field (Refused e) = fault_field e
refusal_field _ = 0

abbrev pub refusal_offset : Refusal → ℕ
refusal_offset (Refused e) = fault_offset e
refusal_offset _ = 0

abbrev pub refusal_code : Refusal → Option Bytes
refusal_code (Refused e) = fault_code e
refusal_code _ = None

-- ---- Texts

-- a hyphen where there is no code
abbrev pub code_shown : Option Bytes → Bytes
code_shown None = codes "-"
code_shown (Some code) = code

abbrev pub refused_text : ℕ → ℕ → Option Bytes → Bytes
refused_text number field code = text_of_words (refused_words number field (code_shown code))

abbrev pub refusal_text : Refusal → Bytes
refusal_text r = refused_text (refusal_number r) (refusal_field r) (refusal_code r)

abbrev pub given_text : Given → Bytes
given_text (Receipt r) = text_of_words (receipt_words r.judged r.accepted r.refused)
given_text _ = text_of_words accepted_words

-- the line that answers what the code tells
abbrev pub told_text : Result Given Refusal → Bytes
told_text (Ok given) = given_text given
told_text (Err r) = refusal_text r

-- the line that an answer of the book should have, of an order or of a trade
abbrev pub answer_text : Kind → Answer → Bytes
answer_text kind (book.Refused number field at) = refused_text number field (agency_code kind number)
answer_text kind (book.Receipt judged accepted refused) = text_of_words (receipt_words judged accepted refused)
answer_text kind _ = text_of_words accepted_words
