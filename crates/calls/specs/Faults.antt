-- The published number, field, offset and code of a line's refusal, and of any call's.
use Rattle.std.specs.Prelude.{ℕ, None, Option}
use Rattle.text.specs.Bytes.{Bytes}
use Rattle.filing.specs.Faults.{entity_number, name_number}
use Rattle.contract.specs.Faults.{contract_fault_number, contract_fault_field, contract_fault_offset, contract_fault_code}
use Rattle.calls.specs.FileFaults.{identify_number, identify_code, place_number, take_number}
use Rattle.claims.specs.Faults.{line_fault_number, line_fault_field, line_fault_offset, line_fault_code}
use Rattle.register.specs.Faults.{act_number, act_field, act_code}
use Rattle.calls.specs.declared.fault.Fault.{Fault}
use Rattle.calls.specs.declared.fault.Fault.TheVariants as fault
use Rattle.calls.specs.declared.faults.JudgeFault.{JudgeFault}
use Rattle.calls.specs.declared.faults.JudgeFault.TheVariants.{File, Line, Act}

abbrev pub judge_number : JudgeFault → ℕ
judge_number (File e) = take_number e
judge_number (Line e) = line_fault_number e
judge_number (Act e kind at) = act_number e

abbrev pub judge_field : JudgeFault → ℕ
judge_field (File e) = 0
judge_field (Line e) = line_fault_field e
judge_field (Act e kind at) = act_field e

abbrev pub judge_offset : JudgeFault → ℕ
judge_offset (File e) = 0
judge_offset (Line e) = line_fault_offset e
judge_offset (Act e kind at) = at

abbrev pub judge_code : JudgeFault → Option Bytes
judge_code (File e) = None
judge_code (Line e) = line_fault_code e
judge_code (Act e kind at) = act_code kind e

-- ---- Any call

abbrev pub fault_number : Fault → ℕ
fault_number (fault.Entity e) = entity_number e
fault_number (fault.Contract e) = contract_fault_number e
fault_number (fault.Name e) = name_number e
fault_number (fault.Identify e) = identify_number e
fault_number (fault.Place e) = place_number e
fault_number (fault.Judge e) = judge_number e
fault_number (fault.LookUp e) = line_fault_number e

abbrev pub fault_field : Fault → ℕ
fault_field (fault.Contract e) = contract_fault_field e
fault_field (fault.Judge e) = judge_field e
fault_field (fault.LookUp e) = line_fault_field e
fault_field _ = 0

abbrev pub fault_offset : Fault → ℕ
fault_offset (fault.Contract e) = contract_fault_offset e
fault_offset (fault.Judge e) = judge_offset e
fault_offset (fault.LookUp e) = line_fault_offset e
fault_offset _ = 0

-- the Agency's code
abbrev pub fault_code : Fault → Option Bytes
fault_code (fault.Contract e) = contract_fault_code e
fault_code (fault.Identify e) = identify_code e
fault_code (fault.Judge e) = judge_code e
fault_code (fault.LookUp e) = line_fault_code e
fault_code _ = None
