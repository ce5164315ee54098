-- Totals: what a run is told of them; and that what the open lives weigh together does not depend on their order, in any commutative group.
use Rattle.std.specs.Prelude.{◌≡◌, List, [], ◌∷◌}
use Rattle.life.specs.Parts.{KeyParts, LifeParts}
use Rattle.life.specs.Lives.{Lives, Unique, Same}
use Rattle.measure.specs.Group.{Group}
use Rattle.measure.specs.Totals.{total_of}
use Rattle.book.specs.Book.{Book, Call, Total, after}

-- a call for the total is told it, before the totals told later
abbrev pub telling : {V : Type 0} → V → Call → List V → List V
telling t Total later = t ∷ later
telling t _ later = later

-- the totals that a run is told, in their order: what the open lives weigh together at each call for the total
abbrev pub totals : {V : Type 0} → V → (V → V → V) → (KeyParts → LifeParts → V) → Book → List Call → List V
totals nil joined weight b [] = []
totals nil joined weight b (c ∷ cs) = telling (total_of nil joined weight b.lives) c (totals nil joined weight (after b c) cs)

-- lists with the same look-ups and no key twice have the same total, whatever their order
abbrev pub TotalsLaw : Type 0 → Type 0
TotalsLaw V = (nil : V) (joined : V → V → V) (inverse : V → V) → Group nil joined inverse → (weight : KeyParts → LifeParts → V) (ps qs : Lives) →
    Unique ps → Unique qs → Same ps qs → total_of nil joined weight ps ≡ total_of nil joined weight qs
