-- The published number of a fault in writing.
use Rattle.std.specs.Prelude.{ℕ}
use Rattle.output.specs.declared.faults.OutputFault.{OutputFault}
use Rattle.output.specs.declared.faults.OutputFault.TheVariants.{TooShort}

abbrev pub fault_number : OutputFault → ℕ
fault_number TooShort = 71
