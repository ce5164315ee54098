-- The published numbers of refusals in adding entities and naming files; none names a field.
use Rattle.std.specs.Prelude.{ℕ, Some, None, Ok, Err, Option, Result}
use Rattle.filing.specs.declared.entities.EntityFault.{EntityFault}
use Rattle.filing.specs.declared.entities.EntityFault.TheVariants as entity
use Rattle.filing.specs.declared.names.NameFault.{NameFault}
use Rattle.filing.specs.declared.names.NameFault.TheVariants as name

abbrev pub entity_number : EntityFault → ℕ
entity_number entity.Form = 61
entity_number entity.Known = 62
entity_number entity.Full = 63

abbrev pub name_number : NameFault → ℕ
name_number name.Form = 64

-- number and field of a refusal in adding an entity
abbrev pub refused_by : Result (Unit {0}) EntityFault → Option (ℕ × ℕ)
refused_by (Ok u) = None
refused_by (Err e) = Some (entity_number e, 0)
