-- Contracts: their text, the list of them, and what a read line owes to the list.
use Rattle.std.specs.Prelude.{ℕ, suc, ◌+◌, ◌≤◌, Bool, true, false, cond, not, ◌&&◌, ◌||◌, List, [], ◌∷◌, ◌++◌, length, is_some, Some, None, Ok, Err, codes, sum_by, Option, Result, ◌==◌, nat_le, nat_lt}
use Rattle.std.specs.Char.{is_ascii_uppercase}
use Rattle.std.specs.List.{AllByRecursion}
use Rattle.std.specs.Str.{bytes_eq}
use Rattle.text.specs.Bytes.{Bytes, every, among, piece, provided, has_form, value, word_of}
use Rattle.text.specs.Forms.{id_form, names_form}
use Rattle.text.specs.Rows.{Row, row, first_fit, looking_at, fields, form_rows, Refusal, settled_by}
use Rattle.line.specs.Lines.{Reported}
use Rattle.contract.specs.declared.types.ContractType.{ContractType}
use Rattle.contract.specs.declared.types.ContractType.TheVariants.{Au, Co, Fu, Fw, Op, OpFu, OpFw, OpSp, OpSw, Ot, Sp, Sw, Swg}

-- ---- The text of a contract

abbrev pub type_form : Bytes → Option ContractType
type_form = word_of (
    (codes "AU", Au) ∷ (codes "CO", Co) ∷ (codes "FU", Fu) ∷ (codes "FW", Fw) ∷ (codes "OP", Op)
    ∷ (codes "OP_FU", OpFu) ∷ (codes "OP_FW", OpFw) ∷ (codes "OP_SP", OpSp) ∷ (codes "OP_SW", OpSw)
    ∷ (codes "OT", Ot) ∷ (codes "SP", Sp) ∷ (codes "SW", Sw) ∷ (codes "SWG", Swg) ∷ [])

-- blank, or one capital letter
abbrev pub style_form : Bytes → Option (Option ℕ)
style_form [] = Some None
style_form (b ∷ []) = provided (is_ascii_uppercase b) (Some b)
style_form (b ∷ c ∷ bs) = None

-- whether a field has its form, for each field from the left
abbrev pub contract_forms : List (Bytes → Bool)
contract_forms =
    (λ t. has_form (id_form 1 32 t))
    ∷ (λ t. has_form (type_form t))
    ∷ (λ t. has_form (style_form t))
    ∷ (λ t. has_form (names_form t))
    ∷ []

pub record Contract : Type 0 where
  pub contract_id : Bytes
  pub contract_type : ContractType
  pub style : Option ℕ
  pub index_names : List Bytes

-- what the fields of a contract say; a text with a field that lacks its form is refused, whatever stands here for that field
abbrev pub contract_said : List Bytes → Contract
contract_said ts = record {
  contract_id = value [] (id_form 1 32 (piece 1 ts));
  contract_type = value Au (type_form (piece 2 ts));
  style = value None (style_form (piece 3 ts));
  index_names = value [] (names_form (piece 4 ts));
}

abbrev pub offered : Bytes → Contract
offered bs = contract_said (fields bs)

-- options need a style, unless they are on a spot
abbrev pub needs_style : ContractType → Bool
needs_style Op = true
needs_style OpFu = true
needs_style OpFw = true
needs_style OpSw = true
needs_style _ = false

-- a text stands twice
abbrev pub repeats : List Bytes → Bool
repeats [] = false
repeats (t ∷ ts) = among ts t || repeats ts

-- ---- The list

abbrev pub contract_limit : ℕ
contract_limit = 63

abbrev pub name_limit : ℕ
name_limit = 255

-- how many index names the contracts have in all
abbrev pub names_in : List Contract → ℕ
names_in cs = sum_by (λ c. length c.index_names) cs

-- an id of at most 32 bytes, and at most eight index names, each of at most 32 bytes
pub record ContractWithin (c : Contract) : Type 0 where
  pub id_short : length c.contract_id ≤ 32
  pub names_few : length c.index_names ≤ 8
  pub names_short : AllByRecursion (λ t. length t ≤ 32) c.index_names

-- what holds of every list, whatever was added: no more contracts than may be listed, and each of
-- them within its own limits
pub record WithinLimits (cs : List Contract) : Type 0 where
  pub few : length cs ≤ contract_limit
  pub each : AllByRecursion ContractWithin cs

-- the contract with an id, and its number, counting from n
abbrev pub numbered : ℕ → List Contract → Bytes → Option (ℕ × Contract)
numbered n [] t = None
numbered n (c ∷ cs) t = cond (bytes_eq c.contract_id t) (Some (n, c)) (numbered (suc n) cs t)

-- the contract with an id, and its number in the order of adding, from 1
abbrev pub listed : List Contract → Bytes → Option (ℕ × Contract)
listed cs t = numbered 1 cs t

-- ---- The table of refusals in adding a contract

-- the rows that look at the text alone
abbrev pub text_rows : List (Row Bytes)
text_rows = row 51 0 (λ bs. not (length (fields bs) == 4)) ∷ form_rows (λ f. 51) 1 contract_forms

-- the rows of a contract that has its form, beside the contracts listed
abbrev pub listing_rows : List (Row (List Contract × Contract))
listing_rows =
    row 52 1 (λ x. is_some (listed x.0 x.1.contract_id))
    ∷ row 53 3 (λ x. needs_style x.1.contract_type && not (is_some x.1.style))
    ∷ row 54 4 (λ x. repeats x.1.index_names)
    ∷ row 55 0 (λ x. nat_le contract_limit (length x.0) || nat_lt name_limit (names_in x.0 + length x.1.index_names))
    ∷ []

abbrev pub contract_rows : List (Row (List Contract × Bytes))
contract_rows = looking_at (λ x. x.1) text_rows ++ looking_at (λ x. (x.0, offered x.1)) listing_rows

-- what adding a contract answers: its number, or why it is refused
abbrev pub adding : List Contract → Bytes → Result ℕ Refusal
adding cs bs = settled_by bs (suc (length cs)) (first_fit contract_rows (cs, bs))

-- the list with one contract more, unless it is refused
abbrev pub added : List Contract → Bytes → List Contract
added cs bs = cond (is_some (first_fit contract_rows (cs, bs))) cs (cs ++ offered bs ∷ [])

-- ---- What a read line owes to the list

-- a line, and the contract listed under the id that it gives
pub record Told : Type 0 where
  pub says : Reported
  pub under : Option (ℕ × Contract)

abbrev pub told : List Contract → Reported → Told
told cs r = record { says = r; under = listed cs r.contract }

-- the venue is `XBIL`: a trade or order made outside a market place
abbrev pub bilateral : Reported → Bool
bilateral r = bytes_eq r.venue (codes "XBIL")

abbrev pub index_names_of : Option (ℕ × Contract) → List Bytes
index_names_of None = []
index_names_of (Some c) = c.1.index_names

-- the table of refusals; at XBIL none of them applies
abbrev pub market_rows : List (Row Told)
market_rows =
    row 31 3 (λ x. not (bilateral x.says) && not (is_some x.under))
    ∷ row 32 11 (λ x. not (bilateral x.says) && not (every (among (index_names_of x.under)) x.says.names))
    ∷ row 33 11 (λ x. not (bilateral x.says) && (nat_le 2 (length (index_names_of x.under)) && length x.says.names == 0))
    ∷ []

abbrev pub number_of : Option (ℕ × Contract) → ℕ
number_of None = 0
number_of (Some c) = c.0

-- the contract number of a line: that of its contract, and 0 at XBIL
abbrev pub contract_number : Told → ℕ
contract_number x = cond (bilateral x.says) 0 (number_of x.under)

-- a value, or the number and field of a refusal, for a caller that has the line's text
abbrev pub settled_plainly : {V : Type 0} → V → Option (ℕ × ℕ) → Result V (ℕ × ℕ)
settled_plainly v None = Ok v
settled_plainly v (Some r) = Err r

-- what a read line gets from the list: its contract number, or why it is refused
abbrev pub due : List Contract → Reported → Result ℕ (ℕ × ℕ)
due cs r = settled_plainly (contract_number (told cs r)) (first_fit market_rows (told cs r))
