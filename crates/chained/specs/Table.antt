-- A table of slots in which pairs are held and chained.
use Rattle.std.specs.Prelude.{◌≡◌, ℕ, zero, suc, ◌+◌, ◌-◌, ◌%◌, ◌<◌, ◌≤◌, Bool, true, false, cond, List, [], ◌∷◌, length, is_ok, Some, None, Option, Result, ◌==◌, ◌≢◌, nat_le, slice_index_or}
use Rattle.life.specs.declared.store.NoRoom.{NoRoom}
use Rattle.text.specs.Bytes.{between}
use Rattle.text.specs.Texts.{text_of}
use Rattle.life.specs.Fnv.{word_of}
use Rattle.life.specs.Blank.{no_key, no_life}
use Rattle.life.specs.Pairs.{erase, added, admits, distinct, Same}
use Rattle.life.specs.declared.key.Key.{Key}
use Rattle.life.specs.declared.life.Life.{Life}
use Rattle.chained.specs.declared.slot.Slot.{Slot}

-- the longest table
abbrev pub slot_limit : ℕ
slot_limit = 65536

-- what is read past the end
abbrev pub none : Slot
none = record { head = 0; next = 0; key = no_key; life = no_life }

-- the slot at a place
abbrev pub at : List Slot → ℕ → Slot
at s i = slice_index_or s i none

-- the chain of a key in a table of n slots, 1 to n - 1, by the word of its id
abbrev pub chain_of : Key → ℕ → ℕ
chain_of k n = 1 + word_of (text_of k.id) % (n - 1)

-- the chain of the key in a slot
abbrev pub chain_at : List Slot → ℕ → ℕ
chain_at s i = chain_of (at s i).key (length s)

-- the pairs of the slots 1 to c, the last one first
abbrev pub pairs_of : List Slot → ℕ → List (Key × Life)
pairs_of s zero = []
pairs_of s (suc c) = ((at s (suc c)).key, (at s (suc c)).life) ∷ pairs_of s c

-- r is the last place below top whose chain, as K says, is b, or 0 if there is none
pub record Prev (K : ℕ → ℕ) (b top r : ℕ) : Type 0 where
  pub below : r < top
  pub hit : 0 < r → K r ≡ b
  pub gap : (m : ℕ) → r < m → m < top → K m ≢ b

-- the heads and nexts chain the slots 1 to c as K says; a slot whose chain is 0 is in none
pub record Linked (K : ℕ → ℕ) (s : List Slot) (c : ℕ) : Type 0 where
  pub nexts : (j : ℕ) → 0 < j → j ≤ c → 0 < K j → Prev K (K j) j (at s j).next
  pub heads : (b : ℕ) → 0 < b → b < length s → Prev K b (c + 1) (at s b).head

-- the slots 1 to c are in use, each in the chain of its key, and no key stands twice
pub record Sound (s : List Slot) (c : ℕ) : Type 0 where
  pub fits : c ≤ length s - 1
  pub small : length s ≤ slot_limit
  pub linked : Linked (chain_at s) s c
  pub apart : (i j : ℕ) → 0 < i → i < j → j ≤ c → (at s i).key ≢ (at s j).key

-- the chains that K says, but v for the slot i
abbrev pub re : (ℕ → ℕ) → ℕ → ℕ → ℕ → ℕ
re K i v m = cond (m == i) v (K m)

-- the slots 1 to c stand in the table and are linked in some chains, and b is a chain of the table
pub record HasChain (s : List Slot) (c b : ℕ) : Type 0 where
  pub linked : (K : ℕ → ℕ) × Linked K s c
  pub fits : c < length s
  pub low : 0 < b
  pub high : b < length s

-- the slot i is one of the slots 1 to c, which are in use, and the table has not too many slots
pub record InUse (s : List Slot) (c i : ℕ) : Type 0 where
  pub small : length s ≤ slot_limit
  pub some : 0 < i
  pub within : i ≤ c

-- r is the place of the key k among the slots 1 to c, or 0 if there is none
pub record Sought (s : List Slot) (c : ℕ) (k : Key) (r : ℕ) : Type 0 where
  pub within : r ≤ c
  pub held : 0 < r → (at s r).key ≡ k
  pub missed : r ≡ 0 → (m : ℕ) → 0 < m → m ≤ c → (at s m).key ≢ k

-- the place of the key k among the slots 1 to c, if there is one
abbrev pub Found : List Slot → ℕ → Key → Option ℕ → Type 0
Found s c k None = Sought s c k 0
Found s c k (Some i) = (0 < i) × Sought s c k i

-- where a link stands in a table of n slots: None for the head of a chain, and Some p for the next of the slot p, which is not 0;
-- so its number can be 0 for the head
abbrev pub Spot : Option ℕ → ℕ → Type 0
Spot None n = Unit {0}
Spot (Some p) n = (0 < p) × (p < n)

-- p is the place in the chain b whose link passes over i, or 0 for the head
pub record Place (s : List Slot) (c b i p : ℕ) : Type 0 where
  pub within : p ≤ c
  pub above : 0 < p → i < p
  pub first : p ≡ 0 → (at s b).head ≤ i
  pub later : 0 < p → (at s p).next ≤ i
  pub chained : (K : ℕ → ℕ) → Linked K s c → 0 < p → K p ≡ b

-- the link at p, or the head of b where p is 0, is v, and all else is as it was
pub record Rewired (s t : List Slot) (b p v : ℕ) : Type 0 where
  pub size : length t ≡ length s
  pub head_at : p ≡ 0 → (at t b).head ≡ v
  pub head_else : (m : ℕ) → (p ≡ 0 → m ≢ b) → (at t m).head ≡ (at s m).head
  pub next_at : 0 < p → (at t p).next ≡ v
  pub next_else : (m : ℕ) → 0 < m → (m ≢ p) → (at t m).next ≡ (at s m).next
  pub keys : (m : ℕ) → (at t m).key ≡ (at s m).key
  pub lives : (m : ℕ) → (at t m).life ≡ (at s m).life

-- the slot i has the key k and the life l, and all else is as it was
pub record Paired (s t : List Slot) (i : ℕ) (k : Key) (l : Life) : Type 0 where
  pub size : length t ≡ length s
  pub key_at : (at t i).key ≡ k
  pub life_at : (at t i).life ≡ l
  pub key_else : (m : ℕ) → (m ≢ i) → (at t m).key ≡ (at s m).key
  pub life_else : (m : ℕ) → (m ≢ i) → (at t m).life ≡ (at s m).life
  pub heads : (m : ℕ) → (at t m).head ≡ (at s m).head
  pub nexts : (m : ℕ) → (at t m).next ≡ (at s m).next

-- only links differ
pub record Kept (s t : List Slot) : Type 0 where
  pub size : length t ≡ length s
  pub keys : (m : ℕ) → (at t m).key ≡ (at s m).key
  pub lives : (m : ℕ) → (at t m).life ≡ (at s m).life

-- the lengths that are allowed
abbrev pub allowed_length : ℕ → Bool
allowed_length n = between 1 slot_limit n

-- how many slots can be in use: all but the slot 0, or none where the length is not allowed
abbrev pub room_of : List Slot → ℕ
room_of s = cond (nat_le (length s) slot_limit) (length s - 1) 0

-- a table whose length is not allowed has no slot in use, and its links may be anything
pub record Whole (s : List Slot) (c : ℕ) : Type 0 where
  pub allowed : length s ≤ slot_limit → Sound s c
  pub large : slot_limit < length s → c ≡ 0

-- the pairs of the slots that are not in use, 0 and those past d, are as they were
pub record Spare (s t : List Slot) (d : ℕ) : Type 0 where
  pub keys : (m : ℕ) → (0 < m → d < m) → (at t m).key ≡ (at s m).key
  pub lives : (m : ℕ) → (0 < m → d < m) → (at t m).life ≡ (at s m).life

-- a table s with c slots in use, which is then t with d: it keeps its length and the pairs of the slots that are not in use, and where
-- `idle` holds nothing is written
pub record Leaves (s : List Slot) (c : ℕ) (t : List Slot) (d : ℕ) (idle : Type 0) : Type 0 where
  pub size : length t ≡ length s
  pub spare : Spare s t d
  pub unwritten : idle → (t ≡ s) × (d ≡ c)

-- no chain has a slot, and all else is as it was
pub record Wiped (s t : List Slot) : Type 0 where
  pub size : length t ≡ length s
  pub heads : (m : ℕ) → (at t m).head ≡ 0
  pub nexts : (m : ℕ) → (at t m).next ≡ (at s m).next
  pub keys : (m : ℕ) → (at t m).key ≡ (at s m).key
  pub lives : (m : ℕ) → (at t m).life ≡ (at s m).life

-- a table whose length is not allowed is not written
pub record Emptied (s t : List Slot) : Type 0 where
  pub size : length t ≡ length s
  pub small : length s ≤ slot_limit → Wiped s t
  pub large : slot_limit < length s → t ≡ s

-- what holds of a store's table: it is sound, no key stands twice, and no more are held than can be; what stands between the bars holds, and nothing
-- more is kept of it
pub record Held (s : List Slot) (c : ℕ) : Type 0 where
  pub in_chains : ∥ Whole s c ∥₁
  pub apart : distinct (pairs_of s c) ≡ true
  pub within : length (pairs_of s c) ≤ room_of s

-- what `put` does to a table s with c slots in use, which is then t with d; where the pair is refused nothing is written
pub record PutInto (s : List Slot) (c : ℕ) (t : List Slot) (d : ℕ) (k : Key) (l : Life) (r : Result (Unit {0}) NoRoom) : Type 0 where
  pub held : Held t d
  pub room : room_of t ≡ room_of s
  pub fits : is_ok r ≡ admits (room_of s) k (pairs_of s c)
  pub holds : Same (pairs_of t d) (added (is_ok r) k l (pairs_of s c))
  pub leaves : Leaves s c t d (is_ok r ≡ false)

-- what `remove` does; a table without room is not written
pub record TakenFrom (s : List Slot) (c : ℕ) (t : List Slot) (d : ℕ) (k : Key) : Type 0 where
  pub held : Held t d
  pub room : room_of t ≡ room_of s
  pub holds : Same (pairs_of t d) (erase k (pairs_of s c))
  pub leaves : Leaves s c t d (room_of s ≡ 0)
