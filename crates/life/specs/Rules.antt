-- The rules of a life: what each action needs, and what it does.
use Rattle.std.specs.Prelude.{ℕ, Bool, true, false, not, ◌&&◌, List, [], ◌∷◌, ◌++◌, ℤ, is_some, Some, None, Option, nat_lt}
use Rattle.text.specs.declared.words.Action.{Action}
use Rattle.text.specs.declared.words.Action.TheVariants.{New, Modify, Error, Cancel}
use Rattle.text.specs.Rows.{Row, row, looking_at}
use Rattle.life.specs.declared.life.State.{State}
use Rattle.life.specs.declared.life.State.TheVariants.{Open, Cancelled}
use Rattle.life.specs.Parts.{LifeParts}

-- what a line wants of its key's life, if one stands
pub record Wanted : Type 0 where
  pub does : Action
  pub when : ℕ
  pub held : Option LifeParts

abbrev pub is_open : State → Bool
is_open Open = true
is_open Cancelled = false

abbrev pub standing : Option LifeParts → Bool
standing l = is_some l

abbrev pub open_life : Option LifeParts → Bool
open_life None = false
open_life (Some l) = is_open l.in_state

abbrev pub cancelled_life : Option LifeParts → Bool
cancelled_life None = false
cancelled_life (Some l) = not (is_open l.in_state)

-- earlier than the last accepted time of the life
abbrev pub earlier : ℕ → Option LifeParts → Bool
earlier t None = false
earlier t (Some l) = nat_lt t l.at_time

abbrev pub by_action : {X : Type 0} → X → X → X → X → Action → X
by_action n m e c New = n
by_action n m e c Modify = m
by_action n m e c Error = e
by_action n m e c Cancel = c

abbrev pub is_new : Action → Bool
is_new = by_action true false false false

abbrev pub is_modify : Action → Bool
is_modify = by_action false true false false

abbrev pub is_error : Action → Bool
is_error = by_action false false true false

abbrev pub is_cancel : Action → Bool
is_cancel = by_action false false false true

-- the table of refusals, in the order in which they are tried
abbrev pub life_rows : List (Row Wanted)
life_rows =
    row 41 7 (λ x. is_new x.does && standing x.held)
    ∷ row 42 7 (λ x. is_modify x.does && not (open_life x.held))
    ∷ row 43 7 (λ x. is_cancel x.does && not (standing x.held))
    ∷ row 44 7 (λ x. is_cancel x.does && cancelled_life x.held)
    ∷ row 45 7 (λ x. is_error x.does && not (standing x.held))
    ∷ row 46 8 (λ x. not (is_new x.does) && earlier x.when x.held)
    ∷ []

-- the same, and a New where as many lives are held as there may be
abbrev pub acting_rows : List (Row (Wanted × Bool))
acting_rows = looking_at (λ x. x.0) life_rows ++ row 47 0 (λ x. is_new x.0.does && x.1) ∷ []

abbrev pub new_life : ℕ → ℕ → Option ℤ → LifeParts
new_life t q p = record { in_state = Open; at_time = t; with_quantity = q; with_price = p }

-- a Modify replaces time, quantity and price
abbrev pub modified : ℕ → ℕ → Option ℤ → LifeParts → LifeParts
modified t q p l = record l { at_time = t; with_quantity = q; with_price = p }

-- a Cancel replaces state and time
abbrev pub cancelled : ℕ → LifeParts → LifeParts
cancelled t l = record l { in_state = Cancelled; at_time = t }
