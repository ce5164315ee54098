-- Calls and answers of the code, as plain data.
use Rattle.measure.specs.declared.measure.Measure.{Ghosts}
use Rattle.std.specs.Prelude.{ℕ, List, map, Ok, Err, Option, Result}
use Rattle.filing.specs.declared.entities.EntityFault.{EntityFault}
use Rattle.filing.specs.Faults.{entity_number, name_number}
use Rattle.contract.specs.declared.faults.ContractFault.{ContractFault}
use Rattle.contract.specs.Faults.{contract_fault_number, contract_fault_field, contract_fault_offset}
use Rattle.calls.specs.declared.files.faults.IdentifyFault.{IdentifyFault}
use Rattle.calls.specs.declared.files.faults.NamingError.{NamingError}
use Rattle.calls.specs.declared.files.faults.NamingError.TheVariants.{Fault, NoMemory}
use Rattle.calls.specs.declared.files.faults.PlaceFault.{PlaceFault}
use Rattle.calls.specs.declared.files.token.FileToken.{FileToken}
use Rattle.calls.specs.declared.files.token.OnlyNamed.{OnlyNamed}
use Rattle.calls.specs.declared.files.receipt.Receipt as files
use Rattle.calls.specs.FileFaults.{identify_number, place_number}
use Rattle.life.specs.declared.life.Life.{Life}
use Rattle.life.specs.Acts.{life_in}
use Rattle.claims.specs.declared.faults.LineFault.{LineFault}
use Rattle.claims.specs.Faults.{line_fault_number, line_fault_field, line_fault_offset}
use Rattle.book.specs.Book as book
use Rattle.calls.specs.declared.answer.Given.{Given}
use Rattle.calls.specs.declared.answer.Given.TheVariants.{Accepted, Receipt, Found}
use Rattle.calls.specs.declared.fault.Fault as calls
use Rattle.calls.specs.declared.answer.Reply.{Reply}
use Rattle.calls.specs.declared.answer.Reply.TheVariants.{Answered, Total as Totalled}
use Rattle.calls.specs.declared.call.Call.{Call}
use Rattle.calls.specs.declared.call.Call.TheVariants.{AddEntity, AddContract, NameFile, Identify, Withdraw, Close, Judge, LookUp, Total}
use Rattle.calls.specs.declared.faults.JudgeFault.{JudgeFault}
use Rattle.calls.specs.Faults.{judge_number, judge_field, judge_offset, fault_number, fault_field, fault_offset}
use Rattle.calls.specs.Follows.{book_total}

-- ---- Calls

abbrev pub call_said : Call → book.Call
call_said (AddEntity code) = book.AddEntity code.now
call_said (AddContract text) = book.AddContract text.now
call_said (NameFile name) = book.NameFile name.now
call_said (Identify n code) = book.Identify n code.now
call_said (Withdraw n) = book.Withdraw n
call_said (Close n) = book.Close n
call_said (Judge n line) = book.Judge n line.now
call_said (LookUp line) = book.LookUp line.now
call_said Total = book.Total

abbrev pub calls_said : List Call → List book.Call
calls_said = map call_said

-- ---- Answers

abbrev pub receipt_said : files.Receipt → book.Answer
receipt_said r = book.Receipt r.judged r.accepted r.refused

-- what the code answers
abbrev pub Spoken : Type 0
Spoken = Result Given calls.Fault

abbrev pub answer_said : Spoken → book.Answer
answer_said (Ok Accepted) = book.Accepted
answer_said (Ok (Receipt r)) = receipt_said r
answer_said (Ok (Found o)) = book.Found (life_in o)
answer_said (Err f) = book.Refused (fault_number f) (fault_field f) (fault_offset f)

abbrev pub answers_said : List Spoken → List book.Answer
answers_said = map answer_said

-- the answer of any call: what it gives of a value, or its fault, kept whole
abbrev pub answer_from : {V E : Type 0} → (V → Given) → (E → calls.Fault) → Result V E → Spoken
answer_from given fault (Ok v) = Ok (given v)
answer_from given fault (Err e) = Err (fault e)

-- ---- The answers of each call; those with no field named have the field and the offset 0

abbrev pub entity_answer : Result (Unit {0}) EntityFault → book.Answer
entity_answer (Ok u) = book.Accepted
entity_answer (Err e) = book.Refused (entity_number e) 0 0

abbrev pub contract_answer : Result ℕ ContractFault → book.Answer
contract_answer (Ok n) = book.Accepted
contract_answer (Err e) = book.Refused (contract_fault_number e) (contract_fault_field e) (contract_fault_offset e)

-- only where naming did not fail for want of memory is it the answer
abbrev pub naming_answer : {V : Type 0} → Result V NamingError → book.Answer
naming_answer (Ok v) = book.Accepted
naming_answer (Err (Fault e)) = book.Refused (name_number e) 0 0
naming_answer (Err NoMemory) = book.Accepted

abbrev pub identify_answer : Result (Unit {0}) IdentifyFault → book.Answer
identify_answer (Ok u) = book.Accepted
identify_answer (Err e) = book.Refused (identify_number e) 0 0

-- where a refusal hands the token back
abbrev pub token_answer : {V : Type 0} → Result V (IdentifyFault × FileToken OnlyNamed) → book.Answer
token_answer (Ok v) = book.Accepted
token_answer (Err e) = book.Refused (identify_number e.0) 0 0

abbrev pub ending_answer : Result files.Receipt PlaceFault → book.Answer
ending_answer (Ok r) = receipt_said r
ending_answer (Err e) = book.Refused (place_number e) 0 0

abbrev pub judge_answer : Result (Unit {0}) JudgeFault → book.Answer
judge_answer (Ok u) = book.Accepted
judge_answer (Err e) = book.Refused (judge_number e) (judge_field e) (judge_offset e)

abbrev pub finding_answer : Result (Option Life) LineFault → book.Answer
finding_answer (Ok o) = book.Found (life_in o)
finding_answer (Err e) = book.Refused (line_fault_number e) (line_fault_field e) (line_fault_offset e)

-- ---- Replies: the answer, or the total where that was asked

pub data ReplyParts (V : Type 0) : Type 0 where
  Answering : book.Answer → ReplyParts V
  Totalling : V → ReplyParts V

abbrev pub reply_said : {M : Type 0} → Reply M → ReplyParts M
reply_said (Answered a) = Answering (answer_said a)
reply_said (Totalled t) = Totalling t

-- a call for the total is told it; every other is answered
abbrev pub replied : {V : Type 0} → book.Call → book.Answer → V → ReplyParts V
replied book.Total a t = Totalling t
replied _ a t = Answering a

-- what a book replies in a measure
abbrev pub reply : {V : Type 0} → Ghosts V → book.Book → book.Call → ReplyParts V
reply weighing b c = replied c (book.answer b c) (book_total weighing b)
