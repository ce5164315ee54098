-- Look-ups in lists of keys and lives, as a store holds them.
use Rattle.std.proofs.Common.{◌≡◌, cond, List, ◌∷◌, Some, None}
use Rattle.life.specs.declared.key.Key.{Key}
use Rattle.life.specs.declared.life.Life.{Life}
use Rattle.life.specs.Keys.{alike}
use Rattle.life.proofs.KeyOrder.{key_eq}
use Rattle.life.specs.Pairs.{look, erase, Unique, Same}
use Rattle.life.proofs.ByKey as by_key

-- what stands at each key after an `erase`
pub look_erase : (j k : Key) (ps : List (Key × Life)) → look j (erase k ps) ≡ cond (alike j k) None (look j ps)
look_erase = by_key.look_erase key_eq

-- and after a life is put in
pub look_put : (j k : Key) (l : Life) (ps : List (Key × Life)) → look j ((k, l) ∷ erase k ps) ≡ cond (alike j k) (Some l) (look j ps)
look_put = by_key.look_put key_eq

pub unique_parts : (p : Key × Life) (ps : List (Key × Life)) → Unique (p ∷ ps) → (look p.0 ps ≡ None) × Unique ps
unique_parts = by_key.unique_parts key_eq

pub unique_from : (p : Key × Life) (ps : List (Key × Life)) → look p.0 ps ≡ None → Unique ps → Unique (p ∷ ps)
unique_from = by_key.unique_from key_eq

-- no key stands twice after a life is put in
pub unique_put : (k : Key) (l : Life) (ps : List (Key × Life)) → Unique ps → Unique ((k, l) ∷ erase k ps)
unique_put = by_key.unique_put key_eq

-- a life put into two lists with the same look-ups
pub same_put : (k : Key) (l : Life) (ps qs : List (Key × Life)) → Same ps qs → Same ((k, l) ∷ erase k ps) ((k, l) ∷ erase k qs)
same_put = by_key.same_put key_eq

-- nothing to take out
pub same_absent : (k : Key) (ps : List (Key × Life)) → look k ps ≡ None → Same ps (erase k ps)
same_absent = by_key.same_absent key_eq
