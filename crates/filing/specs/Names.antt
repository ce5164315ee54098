-- The name of a file.
use Rattle.std.specs.Prelude.{ℕ, ◌-◌, Bool, false, cond, not, ◌&&◌, List, [], ◌∷◌, length, take, drop, None, codes, Option, Result, ◌==◌}
use Rattle.std.specs.Char.{is_ascii_digit, is_ascii_alphanumeric}
use Rattle.std.specs.Str.{bytes_eq}
use Rattle.text.specs.Bytes.{Bytes, between, every, pieces, start, value, has_form}
use Rattle.text.specs.Forms.{code_form}
use Rattle.text.specs.Rows.{Row, row, Refusal, settled}

-- 8 digits
abbrev pub a_date : Bytes → Bool
a_date t = length t == 8 && every is_ascii_digit t

-- 1 to 32 letters or digits
abbrev pub a_schema : Bytes → Bool
a_schema t = between 1 32 (length t) && every is_ascii_alphanumeric t

-- `V` and a digit
abbrev pub a_version : Bytes → Bool
a_version (b ∷ c ∷ []) = b == 86 && is_ascii_digit c
a_version _ = false

-- 1 to 9 digits and `.xml`
abbrev pub a_last : Bytes → Bool
a_last t =
    between 5 13 (length t)
    && (every is_ascii_digit (take (length t - 4) t)
    && bytes_eq (drop (length t - 4) t) (codes ".xml"))

-- the code among the five parts of a name
abbrev pub code_in : List Bytes → Option Bytes
code_in (a ∷ b ∷ c ∷ d ∷ e ∷ []) = cond (a_date a && (a_schema b && (a_version c && a_last e))) (code_form d) None
code_in _ = None

-- date, schema, version, the entity's ACER code, and a number with `.xml`, joined by `_`: the code
unfoldable pub name_form : Bytes → Option Bytes
name_form t = code_in (pieces 95 t)

-- the table of refusals in naming a file
abbrev pub naming_rows : List (Row Bytes)
naming_rows = row 64 0 (λ t. not (has_form (name_form t))) ∷ []

-- where the code stands in a name
unfoldable pub code_offset : Bytes → ℕ
code_offset t = start 4 (pieces 95 t)

-- what a name says: the code and its offset, or why it is refused
abbrev pub naming : Bytes → Result (Bytes × ℕ) Refusal
naming t = settled naming_rows t (value [] (name_form t), code_offset t)
