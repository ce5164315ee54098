-- What an action on a life answers, and the life afterwards.
use Rattle.std.specs.Prelude.{ℕ, ℤ, Some, None, Ok, Err, Option, Result, nat_le}
use Rattle.text.specs.Bytes.{provided}
use Rattle.text.specs.Rows.{first_fit}
use Rattle.text.specs.declared.words.Action.{Action}
use Rattle.life.specs.declared.acts.Outcome.{Outcome}
use Rattle.life.specs.declared.acts.Outcome.TheVariants.{Stays, Ends}
use Rattle.life.specs.declared.fault.LifeFault.{LifeFault}
use Rattle.life.specs.declared.life.Life.{Life}
use Rattle.life.specs.Faults.{life_number, life_field}
use Rattle.life.specs.Limits.{quantity_limit}
use Rattle.life.specs.Parts.{LifeParts, life_parts}
use Rattle.life.specs.Rules.{by_action, life_rows, new_life, modified, cancelled}

abbrev pub life_in : Option Life → Option LifeParts
life_in None = None
life_in (Some l) = Some (life_parts l)

-- an open life of at most 10,000,000 units
abbrev pub life_from : ℕ → ℕ → Option ℤ → Option LifeParts
life_from t q p = provided (nat_le q quantity_limit) (new_life t q p)

-- the number and field of the first rule against an action, told by a line, on the life of its key, if one stands
abbrev pub fault_in : Action → Life → Option LifeParts → Option (ℕ × ℕ)
fault_in a told held = first_fit life_rows (record { does = a; when = told.time; held = held })

-- an answer with the refusal as it is published
abbrev pub published : {V : Type 0} → Result V LifeFault → Result V (ℕ × ℕ)
published (Ok v) = Ok v
published (Err f) = Err (life_number f, life_field f)

-- ---- Where a life stands

-- an accepted Error ends the life
abbrev pub answered : Action → Option (ℕ × ℕ) → Result Outcome (ℕ × ℕ)
answered a (Some fault) = Err fault
answered a None = Ok (by_action Stays Stays Ends Stays a)

-- a refused action and an Error leave the record as it was
abbrev pub life_after : Action → Life → Option (ℕ × ℕ) → LifeParts → LifeParts
life_after a told (Some fault) l = l
life_after a told None l = by_action l (modified told.time told.quantity told.price l) l (cancelled told.time l) a

-- ---- Where none stands

-- the life that a first action begins, with the refusal as it is published
abbrev pub begun : Result Life LifeFault → Result LifeParts (ℕ × ℕ)
begun (Ok l) = Ok (life_parts l)
begun (Err f) = Err (life_number f, life_field f)

-- an accepted action, which is a New, begins an open life
abbrev pub begins : Life → Option (ℕ × ℕ) → Result LifeParts (ℕ × ℕ)
begins told (Some fault) = Err fault
begins told None = Ok (new_life told.time told.quantity told.price)
