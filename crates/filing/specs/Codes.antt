-- What reading a file name answers, as plain data.
use Rattle.std.specs.Prelude.{ℕ, Some, None, Ok, Err, Option, Result}
use Rattle.text.specs.Bytes.{Bytes, then}
use Rattle.text.specs.Rows.{Refusal, Refused}
use Rattle.filing.specs.declared.names.EntityCode.{EntityCode}
use Rattle.filing.specs.declared.names.NameFault.{NameFault}
use Rattle.filing.specs.Faults.{name_number}
use Rattle.filing.specs.Names.{name_form, code_offset}

-- the bytes of a code, and where they stand in the name
abbrev pub code_part : Option EntityCode → Option (Bytes × ℕ)
code_part None = None
code_part (Some code) = Some (code.text.now, code.at)

-- the code of a name and its offset, if the name has its form
abbrev pub code_there : Bytes → Option (Bytes × ℕ)
code_there t = then (name_form t) (λ code. Some (code, code_offset t))

abbrev pub naming_in : Result EntityCode NameFault → Result (Bytes × ℕ) Refusal
naming_in (Ok code) = Ok (code.text.now, code.at)
naming_in (Err e) = Err (Refused (name_number e) 0 0)
