-- The published numbers, fields and codes of refusals of an action.
use Rattle.std.specs.Prelude.{ℕ, Some, None, Ok, Err, Option, Result}
use Rattle.text.specs.Bytes.{Bytes}
use Rattle.text.specs.declared.words.Kind.{Kind}
use Rattle.life.specs.Faults.{life_number, life_field, life_code}
use Rattle.register.specs.declared.faults.ActFault.{ActFault}
use Rattle.register.specs.declared.faults.ActFault.TheVariants.{Life, Full}

abbrev pub act_number : ActFault → ℕ
act_number (Life e) = life_number e
act_number Full = 47

-- 0 for none
abbrev pub act_field : ActFault → ℕ
act_field (Life e) = life_field e
act_field Full = 0

-- the Agency's code, for an order or a trade
abbrev pub act_code : Kind → ActFault → Option Bytes
act_code k (Life e) = life_code k e
act_code k Full = None

-- the number and field of the refusal, if there is one
abbrev pub refused_by : Result (Unit {0}) ActFault → Option (ℕ × ℕ)
refused_by (Ok u) = None
refused_by (Err e) = Some (act_number e, act_field e)
