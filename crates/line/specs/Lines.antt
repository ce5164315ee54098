-- The rules of a report line that look at nothing but the line.
use Rattle.std.specs.Prelude.{ℕ, ◌+◌, Bool, not, List, [], ◌∷◌, length, ℤ, None, Option, Result, ◌==◌}
use Rattle.text.specs.declared.words.Kind.{Kind}
use Rattle.text.specs.declared.words.Kind.TheVariants.{Order}
use Rattle.text.specs.declared.words.Side.{Side}
use Rattle.text.specs.declared.words.Side.TheVariants.{Buy}
use Rattle.text.specs.declared.words.Action.{Action}
use Rattle.text.specs.declared.words.Action.TheVariants.{New}
use Rattle.text.specs.Bytes.{Bytes, between, piece, value, has_form}
use Rattle.text.specs.Forms.{kind_form, id_form, venue_form, code_form, side_form, action_form, time_form, quantity_form, price_form, names_form}
use Rattle.text.specs.Rows.{Row, row, fields, form_rows, Refusal, settled}

-- the most bytes of a line
abbrev pub line_limit : ℕ
line_limit = 512

-- whether a field has its form, for each field from the left
abbrev pub line_forms : List (Bytes → Bool)
line_forms =
    (λ t. has_form (kind_form t))
    ∷ (λ t. has_form (id_form 1 52 t))
    ∷ (λ t. has_form (id_form 0 32 t))
    ∷ (λ t. has_form (venue_form t))
    ∷ (λ t. has_form (code_form t))
    ∷ (λ t. has_form (side_form t))
    ∷ (λ t. has_form (action_form t))
    ∷ (λ t. has_form (time_form t))
    ∷ (λ t. has_form (quantity_form t))
    ∷ (λ t. has_form (price_form t))
    ∷ (λ t. has_form (names_form t))
    ∷ []

abbrev pub length_row : Row Bytes
length_row = row 1 0 (λ bs. not (between 1 line_limit (length bs)))

abbrev pub count_row : Row Bytes
count_row = row 2 0 (λ bs. not (length (fields bs) == 11))

abbrev pub field_rows : List (Row Bytes)
field_rows = form_rows (λ f. 10 + f) 1 line_forms

-- the table: 1 for the length, 2 for the number of fields, 10 + f for field f
abbrev pub line_rows : List (Row Bytes)
line_rows = length_row ∷ count_row ∷ field_rows

-- what the fields of a line say
pub record Reported : Type 0 where
  pub kind : Kind
  pub id : Bytes
  pub contract : Bytes
  pub venue : Bytes
  pub participant : Bytes
  pub side : Side
  pub action : Action
  pub time : ℕ
  pub quantity : ℕ
  pub price : Option ℤ
  pub names : List Bytes

-- a line with a field that lacks its form is refused, whatever stands here for that field
abbrev pub report : List Bytes → Reported
report ts = record {
  kind = value Order (kind_form (piece 1 ts));
  id = value [] (id_form 1 52 (piece 2 ts));
  contract = value [] (id_form 0 32 (piece 3 ts));
  venue = value [] (venue_form (piece 4 ts));
  participant = value [] (code_form (piece 5 ts));
  side = value Buy (side_form (piece 6 ts));
  action = value New (action_form (piece 7 ts));
  time = value 0 (time_form (piece 8 ts));
  quantity = value 0 (quantity_form (piece 9 ts));
  price = value None (price_form (piece 10 ts));
  names = value [] (names_form (piece 11 ts));
}

-- what a line says, or why it is refused
abbrev pub reading : Bytes → Result Reported Refusal
reading bs = settled line_rows bs (report (fields bs))
