-- Two measures side by side.
use Rattle.life.specs.Parts.{KeyParts, LifeParts}
use Rattle.measure.specs.declared.both.Both.{Both}

abbrev pub both : {A B : Type 0} → A → B → Both A B
both x y = record { first = x; second = y }

abbrev pub both_joined : {A B : Type 0} → (A → A → A) → (B → B → B) → Both A B → Both A B → Both A B
both_joined f g x y = both (f x.first y.first) (g x.second y.second)

abbrev pub both_inverse : {A B : Type 0} → (A → A) → (B → B) → Both A B → Both A B
both_inverse f g x = both (f x.first) (g x.second)

abbrev pub both_weight : {A B : Type 0} → (KeyParts → LifeParts → A) → (KeyParts → LifeParts → B) → KeyParts → LifeParts → Both A B
both_weight f g key life = both (f key life) (g key life)
