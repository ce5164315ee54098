-- The published number, field and offset of a fault in reading.
use Rattle.std.specs.Prelude.{ℕ, ◌+◌}
use Rattle.line.specs.declared.faults.ReadFault.{ReadFault}
use Rattle.line.specs.declared.faults.ReadFault.TheVariants.{Length, Fields, Form}
use Rattle.text.specs.Rows.{Refusal, Refused}

abbrev pub fault_number : ReadFault → ℕ
fault_number Length = 1
fault_number Fields = 2
fault_number (Form f at) = 10 + f

abbrev pub fault_field : ReadFault → ℕ
fault_field (Form f at) = f
fault_field _ = 0

abbrev pub fault_offset : ReadFault → ℕ
fault_offset (Form f at) = at
fault_offset _ = 0

-- the refusal that a fault of reading tells
abbrev pub read_refusal : ReadFault → Refusal
read_refusal e = Refused (fault_number e) (fault_field e) (fault_offset e)
