-- The forms of the parts of a line: a text has a form and says a value, or lacks it.
use Rattle.std.specs.Prelude.{ℕ, ◌+◌, ◌-◌, ◌*◌, ◌^◌, Bool, cond, ◌&&◌, List, [], ◌∷◌, length, take, drop, ℤ, pos, neg_ℤ, Some, None, codes, Option, ◌==◌, nat_le, slice_index}
use Rattle.std.specs.Char.{is_ascii_digit, is_ascii_uppercase}
use Rattle.text.specs.declared.words.Kind.{Kind}
use Rattle.text.specs.declared.words.Kind.TheVariants.{Order, Trade}
use Rattle.text.specs.declared.words.Side.{Side}
use Rattle.text.specs.declared.words.Side.TheVariants.{Buy, Sell}
use Rattle.text.specs.declared.words.Action.{Action}
use Rattle.text.specs.declared.words.Action.TheVariants.{New, Modify, Error, Cancel}
use Rattle.text.specs.Bytes.{Bytes, between, id_byte, capital_or_digit, every, pieces, provided, then, word_of}

-- ---- Words

abbrev pub kind_form : Bytes → Option Kind
kind_form = word_of ((codes "ORD", Order) ∷ (codes "TRD", Trade) ∷ [])

-- at least `low` and at most `high` id bytes
abbrev pub id_form : ℕ → ℕ → Bytes → Option Bytes
id_form low high t = provided (between low high (length t) && every id_byte t) t

-- 4 capital letters or digits
abbrev pub venue_form : Bytes → Option Bytes
venue_form t = provided (length t == 4 && every capital_or_digit t) t

-- an ACER code: 9 capital letters or digits, a dot and 2 capital letters
unfoldable pub code_form : Bytes → Option Bytes
code_form t =
    provided (length t == 12 && (every capital_or_digit (take 9 t) && (slice_index t 9 == 46 && every is_ascii_uppercase (drop 10 t)))) t

abbrev pub side_form : Bytes → Option Side
side_form = word_of ((codes "B", Buy) ∷ (codes "S", Sell) ∷ [])

abbrev pub action_form : Bytes → Option Action
action_form = word_of ((codes "N", New) ∷ (codes "M", Modify) ∷ (codes "E", Error) ∷ (codes "C", Cancel) ∷ [])

-- ---- Numbers

-- the number that digits write, after n
abbrev pub written : ℕ → Bytes → ℕ
written n [] = n
written n (b ∷ bs) = written (n * 10 + (b - 48)) bs

-- 1 to `most` digits
abbrev pub digits_form : ℕ → Bytes → Option ℕ
digits_form most t = provided (between 1 most (length t) && every is_ascii_digit t) (written 0 t)

abbrev pub at_most : ℕ → ℕ → Option ℕ
at_most limit n = provided (nat_le n limit) n

-- 1 to 10 digits, at most 4294967295
abbrev pub time_form : Bytes → Option ℕ
time_form t = then (digits_form 10 t) (at_most 4_294_967_295)

-- 1 to `most` digits, then optionally a dot and 1 to 5 digits: the hundred-thousandths
abbrev pub decimal_of : ℕ → List Bytes → Option ℕ
decimal_of most (w ∷ []) = then (digits_form most w) (λ n. Some (n * 100_000))
decimal_of most (w ∷ p ∷ []) = then (digits_form most w) (λ n. then (digits_form 5 p) (λ m. Some (n * 100_000 + m * 10 ^ (5 - length p))))
decimal_of most _ = None

unfoldable pub decimal_form : ℕ → ℕ → Bytes → Option ℕ
decimal_form most limit t = then (decimal_of most (pieces 46 t)) (at_most (limit * 100_000))

-- at most 10000000
abbrev pub quantity_form : Bytes → Option ℕ
quantity_form = decimal_form 8 10_000_000

-- blank, or an optional `-` and a decimal of magnitude at most 1000000
abbrev pub price_form : Bytes → Option (Option ℤ)
price_form [] = Some None
price_form (b ∷ bs) =
    cond (b == 45)
    (then (decimal_form 7 1_000_000 bs) (λ n. Some (Some (neg_ℤ (pos n)))))
    (then (decimal_form 7 1_000_000 (b ∷ bs)) (λ n. Some (Some (pos n))))

-- ---- Names

abbrev pub a_name : Bytes → Bool
a_name t = between 1 32 (length t) && every id_byte t

-- at most `most` texts, each a name
abbrev pub few_names : ℕ → List Bytes → Bool
few_names most ts = nat_le (length ts) most && every a_name ts

-- 0 to 8 index names separated by `,`
abbrev pub names_form : Bytes → Option (List Bytes)
names_form [] = Some []
names_form (b ∷ bs) = provided (few_names 8 (pieces 44 (b ∷ bs))) (pieces 44 (b ∷ bs))
