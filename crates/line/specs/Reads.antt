-- What a reader hands out, and where it stands then.
use Rattle.std.specs.Prelude.{ℕ, ◌+◌, min, List, [], ◌∷◌, drop, ℤ, ◌≡◌, Some, None, Ok, Err, Option, Result}
use Rattle.text.specs.Bytes.{Bytes}
use Rattle.text.specs.Cuts.{front_to, pace_to}
use Rattle.text.specs.Listings.{listing}
use Rattle.line.specs.declared.faults.ReadFault.{ReadFault}
use Rattle.line.specs.declared.faults.ReadFault.TheVariants.{Form}
use Rattle.line.specs.declared.parts.Part.{Part}
use Rattle.line.specs.declared.parts.Part.TheVariants as part
use Rattle.line.specs.declared.place.Place.{Place}
use Rattle.line.specs.declared.reader.Reader.{Reader}

-- ---- Parts

-- what a part says, with the bytes that it points to and their offset
pub data Seen : Type 0 where
  blank : ℕ → Seen
  word : Bytes → ℕ → Seen
  number : ℕ → Bytes → ℕ → Seen
  signed : ℤ → Bytes → ℕ → Seen
  names : List Bytes → Bytes → ℕ → Seen

abbrev pub seen : Part → Seen
seen (part.Blank at) = blank at
seen (part.Word t at) = word t.now at
seen (part.Number v t at) = number v t.now at
seen (part.Signed v t at) = signed v t.now at
seen (part.Names ns t at) = names (listing ns) t.now at

abbrev pub seen_in : Result Part ReadFault → Result Seen ReadFault
seen_in (Ok p) = Ok (seen p)
seen_in (Err e) = Err e

abbrev pub bytes_of : Seen → Bytes
bytes_of (blank at) = []
bytes_of (word bs at) = bs
bytes_of (number v bs at) = bs
bytes_of (signed v bs at) = bs
bytes_of (names ns bs at) = bs

abbrev pub number_of : Seen → ℕ
number_of (number v bs at) = v
number_of _ = 0

abbrev pub signed_of : Seen → Option ℤ
signed_of (signed v bs at) = Some v
signed_of _ = None

abbrev pub names_of : Seen → List Bytes
names_of (names ns bs at) = ns
names_of _ = []

-- ---- Readings

-- the bytes before the next semicolon, and how many they are with it
abbrev pub front : Bytes → Bytes
front bs = front_to 59 bs

abbrev pub pace : Bytes → ℕ
pace bs = pace_to 59 bs

-- fields are counted up to 255
abbrev pub next_field : ℕ → ℕ
next_field f = min (f + 1) 255

-- the value of a text with a form as it is handed out: as it is, or as a part of the line
abbrev pub as_read : {V : Type 0} → Bytes → ℕ → V → V
as_read t at v = v

abbrev pub as_word : Bytes → ℕ → Bytes → Seen
as_word t at [] = blank at
as_word t at (b ∷ bs) = word (b ∷ bs) at

abbrev pub as_number : Bytes → ℕ → ℕ → Seen
as_number t at v = number v t at

abbrev pub as_price : Bytes → ℕ → Option ℤ → Seen
as_price t at None = blank at
as_price t at (Some v) = signed v t at

abbrev pub as_names : Bytes → ℕ → List Bytes → Seen
as_names t at ns = names ns t at

-- a field without its form is refused at its first byte; else its value is handed out
abbrev pub formed : {V X : Type 0} → (V → X) → Option V → ℕ → ℕ → Result X ReadFault
formed hand_out None f at = Err (Form f at)
formed hand_out (Some v) f at = Ok (hand_out v)

-- the field at a place, read by its form
abbrev pub read : {V X : Type 0} → (Bytes → ℕ → V → X) → (Bytes → Option V) → Place → Bytes → Result X ReadFault
read hand_out form p bs =
    formed (hand_out (front (drop p.at bs)) p.at) (form (front (drop p.at bs))) (next_field p.field) p.at

-- where a reader stands after a reading: past the field, or still before it
abbrev pub past : {X : Type 0} → Place → Bytes → Result X ReadFault → Place
past p bs (Ok x) = record { at = p.at + pace (drop p.at bs); field = next_field p.field }
past p bs (Err e) = p

-- what a reading makes of a reader: it stands past the field, or still before it, in the same line
pub record Moved {X : Type 0} (was is : Reader) (r : Result X ReadFault) : Type 0 where
  pub place : is.place ≡ past was.place was.line.now r
  pub line : is.line.now ≡ was.line.now
