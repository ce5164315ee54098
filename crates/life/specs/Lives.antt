-- Lists of keys and lives as plain data: look-ups, and what becomes of a list when one life changes.
use Rattle.std.specs.Prelude.{cond, List, map, Option}
use Rattle.life.specs.ByKey as by_key
use Rattle.life.specs.declared.key.Key.{Key}
use Rattle.life.specs.declared.life.Life.{Life}
use Rattle.life.specs.Keys.{same_key}
use Rattle.life.specs.Parts.{KeyParts, LifeParts, key_parts, life_parts}

-- a key and its life
abbrev pub Pair : Type 0
Pair = KeyParts × LifeParts

abbrev pub Lives : Type 0
Lives = List Pair

-- the pairs that code holds, as plain data
abbrev pub plain_pair : Key × Life → Pair
plain_pair p = (key_parts p.0, life_parts p.1)

abbrev pub plain : List (Key × Life) → Lives
plain = map plain_pair

-- ---- Look-ups

-- the life of a key
abbrev pub look : KeyParts → Lives → Option LifeParts
look = by_key.look same_key

-- no key twice
abbrev pub Unique : Lives → Type 0
Unique = by_key.Unique same_key

-- the same lives in whatever order: at each key the same one or none
abbrev pub Same : Lives → Lives → Type 0
Same = by_key.Same same_key

-- ---- Changes

-- the life of a key is altered where it stands
abbrev pub altered : KeyParts → (LifeParts → LifeParts) → Lives → Lives
altered k f = map (λ p. (p.0, cond (same_key k p.0) (f p.1) p.1))

-- the pairs at every other key
abbrev pub erase : KeyParts → Lives → Lives
erase = by_key.erase same_key
