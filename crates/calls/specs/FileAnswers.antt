-- What calls on files answer, as plain data: number and field of a refusal, if there is one, and
-- receipts.
use Rattle.std.specs.Prelude.{ℕ, Bool, true, false, Some, None, Ok, Err, Option, Result}
use Rattle.filing.specs.Faults.{name_number}
use Rattle.calls.specs.declared.files.faults.IdentifyFault.{IdentifyFault}
use Rattle.calls.specs.declared.files.faults.NamingError.{NamingError}
use Rattle.calls.specs.declared.files.faults.NamingError.TheVariants.{Fault, NoMemory}
use Rattle.calls.specs.declared.files.faults.PlaceFault.{PlaceFault}
use Rattle.calls.specs.declared.files.faults.TakeFault.{TakeFault}
use Rattle.calls.specs.declared.files.receipt.Receipt.{Receipt}
use Rattle.calls.specs.declared.files.token.FileToken.{FileToken}
use Rattle.calls.specs.declared.files.token.OnlyNamed.{OnlyNamed}
use Rattle.calls.specs.FileFaults.{identify_number, place_number, take_number}
use Rattle.filing.specs.Files.{File}

-- ---- In naming

-- naming did not fail for want of memory
abbrev pub had_memory : {V : Type 0} → Result V NamingError → Bool
had_memory (Ok v) = true
had_memory (Err (Fault e)) = true
had_memory (Err NoMemory) = false

-- want of memory is no refusal
abbrev pub name_refusal : {V : Type 0} → Result V NamingError → Option (ℕ × ℕ)
name_refusal (Ok v) = None
name_refusal (Err (Fault e)) = Some (name_number e, 0)
name_refusal (Err NoMemory) = None

-- ---- In identifying

abbrev pub identify_refusal : {V : Type 0} → Result V IdentifyFault → Option (ℕ × ℕ)
identify_refusal (Ok v) = None
identify_refusal (Err e) = Some (identify_number e, 0)

-- the same where a refusal hands the token back
abbrev pub token_refusal : {V : Type 0} → Result V (IdentifyFault × FileToken OnlyNamed) → Option (ℕ × ℕ)
token_refusal (Ok v) = None
token_refusal (Err e) = Some (identify_number e.0, 0)

-- ---- In withdrawing and closing

abbrev pub place_refusal : {V : Type 0} → Result V PlaceFault → Option (ℕ × ℕ)
place_refusal (Ok v) = None
place_refusal (Err e) = Some (place_number e, 0)

-- the counts of a file
abbrev pub receipt_of : File → Receipt
receipt_of f = record { judged = f.judged; accepted = f.accepted; refused = f.refused }

-- ---- In judging a line

abbrev pub take_refusal : {V : Type 0} → Result V TakeFault → Option (ℕ × ℕ)
take_refusal (Ok v) = None
take_refusal (Err e) = Some (take_number e, 0)
