-- A table whose first entries rise strictly by their keys.
use Rattle.std.specs.Prelude.{◌≡◌, ℕ, zero, suc, ◌<◌, ◌≤◌, Bool, true, false, cond, List, [], ◌∷◌, length, is_ok, Ok, Err, Result, nat_le, slice_index_or}
use Rattle.std.specs.declared.cmp.Ordering.{Ordering}
use Rattle.std.specs.declared.cmp.Ordering.TheVariants.{Less, Equal, Greater}
use Rattle.text.specs.Bytes.{between}
use Rattle.life.specs.declared.key.Key.{Key}
use Rattle.life.specs.declared.life.Life.{Life}
use Rattle.life.specs.declared.store.NoRoom.{NoRoom}
use Rattle.life.specs.Keys.{rank, Before}
use Rattle.life.specs.Blank.{no_key, no_life}
use Rattle.life.specs.Pairs.{erase, added, admits, distinct, Same}
use Rattle.ordered.specs.declared.entry.Entry.{Entry}

-- the entry at a place
abbrev pub at : List Entry → ℕ → Entry
at s i = slice_index_or s i (record { key = no_key; life = no_life })

-- the longest table
abbrev pub entry_limit : ℕ
entry_limit = 65535

-- the lengths that are allowed
abbrev pub allowed_length : ℕ → Bool
allowed_length n = between 1 entry_limit n

-- how many entries a table can hold: all, or none where its length is not allowed
abbrev pub room_of : List Entry → ℕ
room_of s = cond (nat_le (length s) entry_limit) (length s) 0

-- the pairs of the first c entries, the last one first
abbrev pub pairs_of : List Entry → ℕ → List (Key × Life)
pairs_of s zero = []
pairs_of s (suc c) = ((at s c).key, (at s c).life) ∷ pairs_of s c

-- what stands for less, for equal and for greater
abbrev pub by_rank : {X : Type 0} → X → X → X → Ordering → X
by_rank below same above Less = below
by_rank below same above Equal = same
by_rank below same above Greater = above

-- pairs in falling order of their keys, with one put in its place: where its key stands, or else where it belongs
abbrev pub placed : Key → Life → List (Key × Life) → List (Key × Life)
placed k l [] = (k, l) ∷ []
placed k l (p ∷ ps) = by_rank (p ∷ placed k l ps) ((k, l) ∷ ps) ((k, l) ∷ p ∷ ps) (rank k p.0)

-- the first c entries, no more than there is room for, rise strictly by their keys
pub record Sound (s : List Entry) (c : ℕ) : Type 0 where
  pub fits : c ≤ room_of s
  pub rising : (i j : ℕ) → i < j → j < c → Before (at s i).key (at s j).key

-- where the key stands, or else where it belongs
abbrev pub Sought : List Entry → ℕ → Key → Result ℕ ℕ → Type 0
Sought s c k (Ok i) = (i < c) × ((at s i).key ≡ k)
Sought s c k (Err i) = (i ≤ c) × ((m : ℕ) → m < i → Before (at s m).key k) × ((m : ℕ) → i ≤ m → m < c → Before k (at s m).key)

-- what holds of a store's table: it is sound, no key stands twice, and no more are held than can be; what stands between the bars holds, and nothing
-- more is kept of it
pub record Held (s : List Entry) (c : ℕ) : Type 0 where
  pub in_order : ∥ Sound s c ∥₁
  pub apart : distinct (pairs_of s c) ≡ true
  pub within : length (pairs_of s c) ≤ room_of s

-- what `put` does to a table s with c entries in use, which is then t with d: it keeps its length, the entries in use are those before with the pair
-- put in its place, and a new key that finds no room alters nothing; the entries that are not in use stay
pub record PutInto (s : List Entry) (c : ℕ) (t : List Entry) (d : ℕ) (k : Key) (l : Life) (r : Result (Unit {0}) NoRoom) : Type 0 where
  pub size : length t ≡ length s
  pub held : Held t d
  pub room : room_of t ≡ room_of s
  pub fits : is_ok r ≡ admits (room_of s) k (pairs_of s c)
  pub holds : Same (pairs_of t d) (added (is_ok r) k l (pairs_of s c))
  pub pairs : is_ok r ≡ true → pairs_of t d ≡ placed k l (pairs_of s c)
  pub refused : is_ok r ≡ false → (t ≡ s) × (d ≡ c)
  pub rest : (m : ℕ) → d ≤ m → at t m ≡ at s m

-- what `remove` does: the entries in use are those before but for the key's; a table without room is not written
pub record TakenFrom (s : List Entry) (c : ℕ) (t : List Entry) (d : ℕ) (k : Key) : Type 0 where
  pub size : length t ≡ length s
  pub held : Held t d
  pub room : room_of t ≡ room_of s
  pub holds : Same (pairs_of t d) (erase k (pairs_of s c))
  pub pairs : pairs_of t d ≡ erase k (pairs_of s c)
  pub idle : room_of s ≡ 0 → (t ≡ s) × (d ≡ c)
  pub rest : (m : ℕ) → d ≤ m → at t m ≡ at s m
