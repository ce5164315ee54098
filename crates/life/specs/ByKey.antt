-- Lists of keys with a value each, by a test that tells whether two keys are one.
use Rattle.std.specs.Prelude.{◌≡◌, Bool, true, cond, not, ◌&&◌, List, [], ◌∷◌, is_some, Some, None, Option}

module _ {K V : Type 0} (same : K → K → Bool) where
  -- the value at a key
  abbrev pub look : K → List (K × V) → Option V
  look k [] = None
  look k (p ∷ ps) = cond (same k p.0) (Some p.1) (look k ps)

  -- the pairs at every other key
  abbrev pub erase : K → List (K × V) → List (K × V)
  erase k [] = []
  erase k (p ∷ ps) = cond (same k p.0) (erase k ps) (p ∷ erase k ps)

  -- no key twice
  abbrev pub distinct : List (K × V) → Bool
  distinct [] = true
  distinct (p ∷ ps) = not (is_some (look p.0 ps)) && distinct ps

  abbrev pub Unique : List (K × V) → Type 0
  Unique ps = distinct ps ≡ true

  -- the same pairs, in whatever order: at each key the same value or none
  abbrev pub Same : List (K × V) → List (K × V) → Type 0
  Same ps qs = (k : K) → look k ps ≡ look k qs
