-- Bytes, texts and the pieces of a text.
use Rattle.std.specs.Prelude.{ℕ, zero, suc, ◌+◌, Bool, true, false, cond, not, ◌&&◌, ◌||◌, List, [], ◌∷◌, length, Some, None, Option, ◌==◌, nat_le}
use Rattle.std.specs.Char.{is_ascii_digit, is_ascii_uppercase}
use Rattle.std.specs.Str.{bytes_eq}

abbrev pub Bytes : Type 0
Bytes = List ℕ

-- ---- Bytes

abbrev pub between : ℕ → ℕ → ℕ → Bool
between low high n = nat_le low n && nat_le n high

-- hexadecimal 21 to 7E, without `;` and `,`
abbrev pub id_byte : ℕ → Bool
id_byte b = between 0x21 0x7E b && (not (b == 59) && not (b == 44))

abbrev pub capital_or_digit : ℕ → Bool
capital_or_digit b = is_ascii_uppercase b || is_ascii_digit b

-- ---- Texts

abbrev pub every : {X : Type 0} → (X → Bool) → List X → Bool
every test [] = true
every test (x ∷ xs) = test x && every test xs

abbrev pub some : {X : Type 0} → (X → Bool) → List X → Bool
some test [] = false
some test (x ∷ xs) = test x || some test xs

-- the text stands in the list
abbrev pub among : List Bytes → Bytes → Bool
among ts t = some (bytes_eq t) ts

-- ---- Pieces

-- a byte put before the first of some texts
abbrev pub onto_first : ℕ → List Bytes → List Bytes
onto_first b [] = (b ∷ []) ∷ []
onto_first b (t ∷ ts) = (b ∷ t) ∷ ts

-- a text cut at each separator: one piece more than there are separators
abbrev pub pieces : ℕ → Bytes → List Bytes
pieces sep [] = [] ∷ []
pieces sep (b ∷ bs) = cond (b == sep) ([] ∷ pieces sep bs) (onto_first b (pieces sep bs))

-- the piece of a number, from 1
abbrev pub piece : ℕ → List Bytes → Bytes
piece (suc zero) (t ∷ ts) = t
piece (suc (suc n)) (t ∷ ts) = piece (suc n) ts
piece _ _ = []

-- where that piece starts: each earlier piece and its separator stand before it; no piece (0) starts at 0
abbrev pub start : ℕ → List Bytes → ℕ
start (suc (suc n)) (t ∷ ts) = length t + 1 + start (suc n) ts
start _ _ = 0

-- ---- Forms: a text has a form and says a value, or lacks it

abbrev pub provided : {V : Type 0} → Bool → V → Option V
provided test v = cond test (Some v) None

abbrev pub then : {V W : Type 0} → Option V → (V → Option W) → Option W
then None f = None
then (Some v) f = f v

abbrev pub has_form : {V : Type 0} → Option V → Bool
has_form None = false
has_form (Some v) = true

-- the value that a text says; where it lacks its form, any one
abbrev pub value : {V : Type 0} → V → Option V → V
value any None = any
value any (Some v) = v

-- one of the words of a list
abbrev pub word_of : {V : Type 0} → List (Bytes × V) → Bytes → Option V
word_of [] t = None
word_of (w ∷ ws) t = cond (bytes_eq w.0 t) (Some w.1) (word_of ws t)
