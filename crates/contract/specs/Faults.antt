-- The published numbers, fields, offsets and codes of refusals by the contract list.
use Rattle.std.specs.Prelude.{ℕ, Some, None, codes, Option}
use Rattle.text.specs.Bytes.{Bytes}
use Rattle.text.specs.Rows.{Refusal, Refused}
use Rattle.line.specs.Faults.{fault_field, fault_offset}
use Rattle.contract.specs.declared.faults.ContractFault.{ContractFault}
use Rattle.contract.specs.declared.faults.ContractFault.TheVariants.{Form, Listed, Style, NameTwice, Full}
use Rattle.contract.specs.declared.faults.ListFault.{ListFault}
use Rattle.contract.specs.declared.faults.ListFault.TheVariants.{NotListed, OtherName, NoName}

-- ---- In adding a contract

abbrev pub contract_fault_number : ContractFault → ℕ
contract_fault_number (Form e) = 51
contract_fault_number Listed = 52
contract_fault_number (Style at) = 53
contract_fault_number (NameTwice at) = 54
contract_fault_number Full = 55

abbrev pub contract_fault_field : ContractFault → ℕ
contract_fault_field (Form e) = fault_field e
contract_fault_field Listed = 1
contract_fault_field (Style at) = 3
contract_fault_field (NameTwice at) = 4
contract_fault_field Full = 0

abbrev pub contract_fault_offset : ContractFault → ℕ
contract_fault_offset (Form e) = fault_offset e
contract_fault_offset (Style at) = at
contract_fault_offset (NameTwice at) = at
contract_fault_offset _ = 0

abbrev pub contract_fault_code : ContractFault → Option Bytes
contract_fault_code (Style at) = Some (codes "R10D0S0PTM")
contract_fault_code (NameTwice at) = Some (codes "AT1F25E1")
contract_fault_code _ = None

abbrev pub contract_refusal : ContractFault → Refusal
contract_refusal e = Refused (contract_fault_number e) (contract_fault_field e) (contract_fault_offset e)

-- ---- In what a read line owes to the list

abbrev pub list_fault_number : ListFault → ℕ
list_fault_number NotListed = 31
list_fault_number OtherName = 32
list_fault_number NoName = 33

abbrev pub list_fault_field : ListFault → ℕ
list_fault_field NotListed = 3
list_fault_field _ = 11

abbrev pub list_fault_code : ListFault → Bytes
list_fault_code NotListed = codes "R1CTCITRAIDE"
list_fault_code OtherName = codes "AT1F25E2"
list_fault_code NoName = codes "AT1F25E3"
