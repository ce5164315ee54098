-- A commutative group.
use Rattle.std.specs.Prelude.{◌≡◌}

pub record Group {V : Type 0} (nil : V) (joined : V → V → V) (inverse : V → V) : Type 0 where
  pub assoc : (x y z : V) → joined (joined x y) z ≡ joined x (joined y z)
  pub comm : (x y : V) → joined x y ≡ joined y x
  pub unit : (x : V) → joined nil x ≡ x
  pub undo : (x : V) → joined (inverse x) x ≡ nil
