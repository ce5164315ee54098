-- The published numbers and codes of refusals in calls on files; none names a field.
use Rattle.std.specs.Prelude.{ℕ, Some, None, codes, Option}
use Rattle.text.specs.Bytes.{Bytes}
use Rattle.calls.specs.declared.files.faults.IdentifyFault.{IdentifyFault}
use Rattle.calls.specs.declared.files.faults.IdentifyFault.TheVariants as identify
use Rattle.calls.specs.declared.files.faults.PlaceFault.{PlaceFault}
use Rattle.calls.specs.declared.files.faults.PlaceFault.TheVariants as place
use Rattle.calls.specs.declared.files.faults.TakeFault.{TakeFault}
use Rattle.calls.specs.declared.files.faults.TakeFault.TheVariants as take

abbrev pub identify_number : IdentifyFault → ℕ
identify_number identify.OutOfPlace = 66
identify_number identify.Entity = 65

-- the Agency's code
abbrev pub identify_code : IdentifyFault → Option Bytes
identify_code identify.OutOfPlace = None
identify_code identify.Entity = Some (codes "R1REPENTCON")

abbrev pub place_number : PlaceFault → ℕ
place_number place.OutOfPlace = 66

abbrev pub take_number : TakeFault → ℕ
take_number take.OutOfPlace = 66
take_number take.Spent = 9
