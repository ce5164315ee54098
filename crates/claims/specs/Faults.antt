-- The published number, field, offset and code of a line that makes no claim.
use Rattle.std.specs.Prelude.{ℕ, Some, None, Option}
use Rattle.text.specs.Bytes.{Bytes}
use Rattle.text.specs.Rows.{Refusal, Refused}
use Rattle.line.specs.Faults.{fault_number, fault_field, fault_offset}
use Rattle.contract.specs.Faults.{list_fault_number, list_fault_field, list_fault_code}
use Rattle.claims.specs.declared.faults.LineFault.{LineFault}
use Rattle.claims.specs.declared.faults.LineFault.TheVariants.{Read, List}

abbrev pub line_fault_number : LineFault → ℕ
line_fault_number (Read e) = fault_number e
line_fault_number (List e at) = list_fault_number e

abbrev pub line_fault_field : LineFault → ℕ
line_fault_field (Read e) = fault_field e
line_fault_field (List e at) = list_fault_field e

abbrev pub line_fault_offset : LineFault → ℕ
line_fault_offset (Read e) = fault_offset e
line_fault_offset (List e at) = at

-- only refusals by the contract list have codes
abbrev pub line_fault_code : LineFault → Option Bytes
line_fault_code (Read e) = None
line_fault_code (List e at) = Some (list_fault_code e)

abbrev pub line_refusal : LineFault → Refusal
line_refusal e = Refused (line_fault_number e) (line_fault_field e) (line_fault_offset e)
