-- The published numbers, fields and codes of refusals.
use Rattle.std.specs.Prelude.{ℕ, Bool, Some, None, Ok, Err, codes, Option, Result}
use Rattle.text.specs.Bytes.{Bytes, between}
use Rattle.text.specs.declared.words.Kind.{Kind}
use Rattle.text.specs.declared.words.Kind.TheVariants.{Order, Trade}
use Rattle.life.specs.declared.fault.LifeFault.{LifeFault}
use Rattle.life.specs.declared.fault.LifeFault.TheVariants.{Standing, NotOpen, NoneToCancel, CancelledBefore, NoneToStrike, Earlier}
use Rattle.life.specs.declared.fault.TableFault.{TableFault}
use Rattle.life.specs.declared.fault.TableFault.TheVariants.{Length}

abbrev pub life_number : LifeFault → ℕ
life_number Standing = 41
life_number NotOpen = 42
life_number NoneToCancel = 43
life_number CancelledBefore = 44
life_number NoneToStrike = 45
life_number Earlier = 46

abbrev pub life_field : LifeFault → ℕ
life_field Earlier = 8
life_field _ = 7

abbrev pub by_kind : {X : Type 0} → X → X → Kind → X
by_kind o t Order = o
by_kind o t Trade = t

-- the Agency's code, for an order or a trade
abbrev pub life_code : Kind → LifeFault → Option Bytes
life_code k CancelledBefore = Some (by_kind (codes "R2ODOICIMPIUQC") (codes "R1CDUTIDRCIMPDTUQC") k)
life_code k NoneToStrike = Some (by_kind (codes "R1LIATORERR") (codes "R1LIATTRERR") k)
life_code k _ = None

abbrev pub table_number : TableFault → ℕ
table_number Length = 72

-- a table has from 1 place to `most`
abbrev pub allowed_length : ℕ → ℕ → Bool
allowed_length most n = between 1 most n

-- the number of the refusal, if there is one
abbrev pub length_refused : Result (Unit {0}) TableFault → Option ℕ
length_refused (Ok u) = None
length_refused (Err f) = Some (table_number f)
