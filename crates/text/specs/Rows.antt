-- Published tables of refusals: rows tried in order, and the first that fits.
use Rattle.std.specs.Prelude.{ℕ, suc, Bool, cond, not, List, [], ◌∷◌, map, Some, None, Ok, Err, Option, Result}
use Rattle.text.specs.Bytes.{Bytes, pieces, piece, start}

-- a row of a table: the number of a refusal, its field (0 for none), and when it fits
pub record Row (X : Type 0) : Type 0 where
  pub number : ℕ
  pub for_field : ℕ
  pub fits : X → Bool

abbrev pub row : {X : Type 0} → ℕ → ℕ → (X → Bool) → Row X
row n f test = record { number = n; for_field = f; fits = test }

-- number and field of the first row that fits
abbrev pub first_fit : {X : Type 0} → List (Row X) → X → Option (ℕ × ℕ)
first_fit [] x = None
first_fit (r ∷ rs) x = cond (r.fits x) (Some (r.number, r.for_field)) (first_fit rs x)

-- rows that look at a part of what is asked
abbrev pub looking_at : {X Y : Type 0} → (Y → X) → List (Row X) → List (Row Y)
looking_at part = map (λ r. row r.number r.for_field (λ y. r.fits (part y)))

-- ---- Texts of fields

-- the fields of a text stand between its semicolons
abbrev pub fields : Bytes → List Bytes
fields bs = pieces 59 bs

-- a row for each field, from field f on: the field lacks its form
abbrev pub form_rows : (ℕ → ℕ) → ℕ → List (Bytes → Bool) → List (Row Bytes)
form_rows number f [] = []
form_rows number f (form ∷ forms) = row (number f) f (λ bs. not (form (piece f (fields bs)))) ∷ form_rows number (suc f) forms

-- a refusal: its number, its field (0 for none) and the offset of that field's first byte (0 for none)
pub data Refusal : Type 0 where
  Refused : ℕ → ℕ → ℕ → Refusal

abbrev pub refusal : Bytes → ℕ × ℕ → Refusal
refusal bs r = Refused r.0 r.1 (start r.1 (fields bs))

-- what a row found makes of a text: refused, or else this value
abbrev pub settled_by : {V : Type 0} → Bytes → V → Option (ℕ × ℕ) → Result V Refusal
settled_by bs v None = Ok v
settled_by bs v (Some r) = Err (refusal bs r)

-- refused by the first row that fits, or else this value
abbrev pub settled : {V : Type 0} → List (Row Bytes) → Bytes → V → Result V Refusal
settled rows bs v = settled_by bs v (first_fit rows bs)
