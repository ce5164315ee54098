-- Lists of keys and lives: what a store means.
use Rattle.std.specs.Prelude.{ℕ, Bool, cond, ◌||◌, List, ◌∷◌, length, is_some, Option, nat_lt}
use Rattle.life.specs.ByKey as by_key
use Rattle.life.specs.declared.key.Key.{Key}
use Rattle.life.specs.declared.life.Life.{Life}
use Rattle.life.specs.Keys.{alike}

-- the life at a key
abbrev pub look : Key → List (Key × Life) → Option Life
look = by_key.look alike

-- the pairs at every other key
abbrev pub erase : Key → List (Key × Life) → List (Key × Life)
erase = by_key.erase alike

-- the pairs with a life put at a key, where that is to be
abbrev pub added : Bool → Key → Life → List (Key × Life) → List (Key × Life)
added b k l ps = cond b ((k, l) ∷ erase k ps) ps

-- whether there is a place for the key: it is held, or fewer pairs than the room are
abbrev pub admits : ℕ → Key → List (Key × Life) → Bool
admits room k ps = is_some (look k ps) || nat_lt (length ps) room

-- no key twice
abbrev pub distinct : List (Key × Life) → Bool
distinct = by_key.distinct alike

abbrev pub Unique : List (Key × Life) → Type 0
Unique = by_key.Unique alike

-- the same pairs, in whatever order: at each key the same life or none
abbrev pub Same : List (Key × Life) → List (Key × Life) → Type 0
Same = by_key.Same alike
