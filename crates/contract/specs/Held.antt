-- What the list holds and answers, as plain data.
use Rattle.std.specs.Prelude.{ℕ, ◌≤◌, Bool, List, map, Some, None, Ok, Err, vec_items, vec_len, vec_capacity, Option, Result}
use Rattle.std.specs.Str.{bytes_eq}
use Rattle.text.specs.Bytes.{Bytes}
use Rattle.text.specs.Rows.{Refusal}
use Rattle.text.specs.Texts.{text_of, texts_of}
use Rattle.line.specs.declared.faults.ReadFault.{ReadFault}
use Rattle.contract.specs.declared.contracts.Found.{Found}
use Rattle.contract.specs.declared.faults.ContractFault.{ContractFault}
use Rattle.contract.specs.declared.faults.ContractFault.TheVariants.{Form}
use Rattle.contract.specs.declared.faults.ListFault.{ListFault}
use Rattle.contract.specs.declared.held.HeldContract.{HeldContract}
use Rattle.contract.specs.declared.held.NameList.{NameList}
use Rattle.contract.specs.declared.list.ContractList.TheInside.{Inside}
use Rattle.contract.specs.ContractList.{Contract, contract_limit}
use Rattle.contract.specs.Faults.{contract_refusal, list_fault_number, list_fault_field}

abbrev pub names_of : NameList → List Bytes
names_of ns = texts_of ns.texts.items

abbrev pub contract_of : HeldContract → Contract
contract_of c = record {
  contract_id = text_of c.id;
  contract_type = c.kind;
  style = c.style;
  index_names = names_of c.names;
}

-- whether a contract has the id
abbrev pub has_id : Bytes → HeldContract → Bool
has_id id c = bytes_eq (text_of c.id) id

-- the contracts of a list, by its field
abbrev pub contracts_of : Inside → List Contract
contracts_of list = map contract_of (vec_items list.contracts)

-- a place is reserved for each contract that may be listed, and no more are listed
pub record HasRoom (list : Inside) : Type 0 where
  pub fits : contract_limit ≤ vec_capacity list.contracts
  pub few : vec_len list.contracts ≤ contract_limit

-- ---- Answers

-- a contract read from its text
abbrev pub contract_in : Result HeldContract ReadFault → Result Contract Refusal
contract_in (Ok c) = Ok (contract_of c)
contract_in (Err e) = Err (contract_refusal (Form e))

abbrev pub added_in : {V : Type 0} → Result V ContractFault → Result V Refusal
added_in (Ok v) = Ok v
added_in (Err e) = Err (contract_refusal e)

abbrev pub found_in : Option Found → Option (ℕ × Contract)
found_in None = None
found_in (Some f) = Some (f.number, contract_of f.contract.now)

-- the contract number of a line, or number and field of its refusal
abbrev pub number_in : Result ℕ ListFault → Result ℕ (ℕ × ℕ)
number_in (Ok n) = Ok n
number_in (Err e) = Err (list_fault_number e, list_fault_field e)
