-- The list of reporting entities: ACER codes, in the order of adding.
use Rattle.std.specs.Prelude.{ℕ, ◌≤◌, cond, not, List, [], ◌∷◌, ◌++◌, length, is_some, nat_le}
use Rattle.std.specs.List.{AllByRecursion}
use Rattle.text.specs.Bytes.{Bytes, among, has_form}
use Rattle.text.specs.Forms.{code_form}
use Rattle.text.specs.Rows.{Row, row, first_fit}

abbrev pub entity_limit : ℕ
entity_limit = 32

-- what holds of every list, whatever was added: each code has at most twelve bytes
abbrev pub CodesWithin : List Bytes → Type 0
CodesWithin es = AllByRecursion (λ code. length code ≤ 12) es

-- the table of refusals in adding an entity, by the entities known and the code
abbrev pub entity_rows : List (Row (List Bytes × Bytes))
entity_rows =
    row 61 0 (λ x. not (has_form (code_form x.1)))
    ∷ row 62 0 (λ x. among x.0 x.1)
    ∷ row 63 0 (λ x. nat_le entity_limit (length x.0))
    ∷ []

-- the entities with one more, unless it is refused
abbrev pub added : List Bytes → Bytes → List Bytes
added es code = cond (is_some (first_fit entity_rows (es, code))) es (es ++ code ∷ [])
