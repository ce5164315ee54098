-- How a key is made, whether two keys are one, and which comes first: by kind (orders first), id, contract number, venue,
-- participant and side (buys first), bytes from the left, a prefix first.
use Rattle.std.specs.Prelude.{◌≡◌, ℕ, Bool, true, ◌&&◌, ◌⊎◌, List, [], ◌∷◌, length, Some, None, Option, ◌==◌, nat_le, nat_lt}
use Rattle.std.specs.declared.cmp.Ordering.TheVariants.{Equal, Greater}
use Rattle.std.specs.declared.cmp.Ordering.{Ordering}
use Rattle.std.specs.Ordering.{is_lt}
use Rattle.std.specs.Str.{bytes_eq}
use Rattle.text.specs.Bytes.{Bytes, provided}
use Rattle.text.specs.Texts.{lexical, order}
use Rattle.text.specs.declared.words.Kind.{Kind}
use Rattle.text.specs.declared.words.Kind.TheVariants.{Order, Trade}
use Rattle.text.specs.declared.words.Side.{Side}
use Rattle.text.specs.declared.words.Side.TheVariants.{Buy, Sell}
use Rattle.life.specs.declared.key.Key.{Key}
use Rattle.life.specs.Parts.{KeyParts, key_parts}

-- ---- A key from its parts

abbrev pub parts_in : Option Key → Option KeyParts
parts_in None = None
parts_in (Some k) = Some (key_parts k)

-- at most 52 bytes of id, contracts 0 to 63, 4 bytes of venue and 12 of participant
abbrev pub parts_from : Kind → Bytes → ℕ → Bytes → Bytes → Side → Option KeyParts
parts_from kind id contract venue participant side =
    provided (nat_le (length id) 52 && (nat_lt contract 64 && (length venue == 4 && length participant == 12)))
    (record { of_kind = kind; of_id = id; of_contract = contract; of_venue = venue; of_participant = participant; of_side = side })

-- ---- Whether two keys are one

abbrev pub kind_place : Kind → ℕ
kind_place Order = 0
kind_place Trade = 1

abbrev pub side_place : Side → ℕ
side_place Buy = 0
side_place Sell = 1

unfoldable pub same_key : KeyParts → KeyParts → Bool
same_key a b =
    (kind_place a.of_kind == kind_place b.of_kind)
    && (bytes_eq a.of_id b.of_id
    && (a.of_contract == b.of_contract
    && (bytes_eq a.of_venue b.of_venue
    && (bytes_eq a.of_participant b.of_participant
    && side_place a.of_side == side_place b.of_side))))

-- ---- Which of two keys comes first

-- the parts of a key as they are listed, each as numbers
abbrev pub listed_parts : KeyParts → List Bytes
listed_parts k =
    (kind_place k.of_kind ∷ []) ∷ k.of_id ∷ (k.of_contract ∷ []) ∷ k.of_venue ∷ k.of_participant ∷ (side_place k.of_side ∷ []) ∷ []

-- by the first part that differs
unfoldable pub key_order : KeyParts → KeyParts → Ordering
key_order a b = lexical order (listed_parts a) (listed_parts b)

-- ---- The same of keys as a store holds them

unfoldable pub alike : Key → Key → Bool
alike a b = same_key (key_parts a) (key_parts b)

unfoldable pub rank : Key → Key → Ordering
rank a b = key_order (key_parts a) (key_parts b)

abbrev pub Before : Key → Key → Type 0
Before a b = is_lt (rank a b) ≡ true

-- the order is strict and total, and keys are one where they have the same parts
pub record StrictOrder : Type 0 where
  pub never_itself : (a : Key) → Before a a → ⊥
  pub onward : (a b c : Key) → Before a b → Before b c → Before a c
  pub one_of_three : (a b : Key) → Before a b ⊎ ((a ≡ b) ⊎ Before b a)
  pub equal_is_same : (a b : Key) → rank a b ≡ Equal → a ≡ b
  pub same_is_equal : (a b : Key) → a ≡ b → rank a b ≡ Equal
  pub greater_is_after : (a b : Key) → rank a b ≡ Greater → Before b a
  pub alike_is_same : (a b : Key) → alike a b ≡ true → a ≡ b
  pub same_is_alike : (a b : Key) → a ≡ b → alike a b ≡ true
  pub parts_are_all : (a b : Key) → key_parts a ≡ key_parts b → a ≡ b
