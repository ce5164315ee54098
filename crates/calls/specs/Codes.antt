-- The Agency's code of a refusal: by its number, and for 44 and 45 by what the line tells of, an order or a trade.
use Rattle.std.specs.Prelude.{◌≡◌, ⊤, ℕ, cond, Some, None, Ok, Err, codes, Option, Result, ◌==◌}
use Rattle.text.specs.Bytes.{Bytes}
use Rattle.text.specs.Rows.{fields}
use Rattle.text.specs.declared.words.Kind.{Kind}
use Rattle.text.specs.declared.words.Kind.TheVariants.{Order}
use Rattle.line.specs.Lines.{report}
use Rattle.life.specs.Faults.{by_kind}
use Rattle.book.specs.Book as book
use Rattle.calls.specs.declared.answer.Reply.{Reply}
use Rattle.calls.specs.declared.answer.Reply.TheVariants.{Answered, Total}
use Rattle.calls.specs.declared.fault.Fault.TheVariants as fault
use Rattle.calls.specs.declared.faults.JudgeFault.{JudgeFault}
use Rattle.calls.specs.declared.faults.JudgeFault.TheVariants.{Act}
use Rattle.calls.specs.Faults.{fault_code}
use Rattle.calls.specs.Said.{Spoken, ReplyParts, Answering, Totalling}

-- the published codes
abbrev pub agency_code : Kind → ℕ → Option Bytes
agency_code kind number =
    cond (number == 31) (Some (codes "R1CTCITRAIDE"))
    (cond (number == 32) (Some (codes "AT1F25E2"))
    (cond (number == 33) (Some (codes "AT1F25E3"))
    (cond (number == 44) (Some (by_kind (codes "R2ODOICIMPIUQC") (codes "R1CDUTIDRCIMPDTUQC") kind))
    (cond (number == 45) (Some (by_kind (codes "R1LIATORERR") (codes "R1LIATTRERR") kind))
    (cond (number == 53) (Some (codes "R10D0S0PTM"))
    (cond (number == 54) (Some (codes "AT1F25E1"))
    (cond (number == 65) (Some (codes "R1REPENTCON")) None)))))))

-- what a line tells of
abbrev pub kind_of : Bytes → Kind
kind_of bs = (report (fields bs)).kind

-- the code that an answer should have
abbrev pub code_due : Kind → book.Answer → Option Bytes
code_due kind (book.Refused number field at) = agency_code kind number
code_due kind _ = None

-- the code that it has
abbrev pub code_in : {V F : Type 0} → (F → Option Bytes) → Result V F → Option Bytes
code_in code (Ok v) = None
code_in code (Err e) = code e

-- the refusal of an action tells of the kind
abbrev pub IsOfKind : Kind → JudgeFault → Type 0
IsOfKind kind (Act e k at) = k ≡ kind
IsOfKind kind _ = ⊤

-- ---- Any call

-- what the line of a call tells of; the codes of calls without a line are the same for both kinds
abbrev pub kind_in : book.Call → Kind
kind_in (book.Judge n bs) = kind_of bs
kind_in (book.LookUp bs) = kind_of bs
kind_in _ = Order

abbrev pub reply_code_due : {V : Type 0} → Kind → ReplyParts V → Option Bytes
reply_code_due kind (Answering a) = code_due kind a
reply_code_due kind (Totalling t) = None

abbrev pub reply_code : {M : Type 0} → Reply M → Option Bytes
reply_code (Answered a) = code_in fault_code a
reply_code (Total t) = None

-- the refusal of an action, as the answer to a call
abbrev pub TellsKind : Kind → Spoken → Type 0
TellsKind kind (Err (fault.Judge e)) = IsOfKind kind e
TellsKind kind _ = ⊤

abbrev pub ReplyTellsKind : {M : Type 0} → Kind → Reply M → Type 0
ReplyTellsKind kind (Answered a) = TellsKind kind a
ReplyTellsKind kind _ = ⊤
