-- Totals: what the open lives of a list weigh together, in any measure.
use Rattle.std.specs.Prelude.{[], ◌∷◌}
use Rattle.life.specs.declared.life.State.{State}
use Rattle.life.specs.declared.life.State.TheVariants.{Open, Cancelled}
use Rattle.life.specs.Parts.{KeyParts, LifeParts}
use Rattle.life.specs.Lives.{Lives}
use Rattle.measure.specs.declared.measure.Measure.{Ghosts}

-- the weight w while the life is open, and nothing after
abbrev pub while_open : {V : Type 0} → V → State → V → V
while_open nil Open w = w
while_open nil Cancelled w = nil

-- what a life brings to the total
abbrev pub share : {V : Type 0} → V → (KeyParts → LifeParts → V) → KeyParts → LifeParts → V
share nil weight k l = while_open nil l.in_state (weight k l)

-- the shares of all lives, joined
abbrev pub total_of : {V : Type 0} → V → (V → V → V) → (KeyParts → LifeParts → V) → Lives → V
total_of nil joined weight [] = nil
total_of nil joined weight (p ∷ ps) = joined (share nil weight p.0 p.1) (total_of nil joined weight ps)

-- the same in a measure
abbrev pub share_in : {V : Type 0} → Ghosts V → KeyParts → LifeParts → V
share_in m = share m.nil m.weight

abbrev pub total_in : {V : Type 0} → Ghosts V → Lives → V
total_in m = total_of m.nil m.joined m.weight
