-- What a bounded text stands for, and the order of texts.
use Rattle.std.specs.Prelude.{ℕ, cond, List, [], ◌∷◌, map, take, Some, None, Option, nat_lt}
use Rattle.std.specs.declared.cmp.Ordering.TheVariants.{Less, Equal, Greater}
use Rattle.std.specs.declared.cmp.Ordering.{Ordering}
use Rattle.std.specs.Ordering.{ordering_then}
use Rattle.text.specs.declared.bounded.Text.{Text}

abbrev pub text_of : {n : ℕ} → Text n → List ℕ
text_of t = take t.len t.bytes

abbrev pub text_in : {n : ℕ} → Option (Text n) → Option (List ℕ)
text_in None = None
text_in (Some t) = Some (text_of t)

abbrev pub texts_of : {n : ℕ} → List (Text n) → List (List ℕ)
texts_of ts = map text_of ts

-- by what stands first where the lists differ, and a list before what it begins
abbrev pub lexical : {X : Type 0} → (X → X → Ordering) → List X → List X → Ordering
lexical f [] [] = Equal
lexical f [] (y ∷ ys) = Less
lexical f (x ∷ xs) [] = Greater
lexical f (x ∷ xs) (y ∷ ys) = ordering_then (f x y) (lexical f xs ys)

abbrev pub number_order : ℕ → ℕ → Ordering
number_order x y = cond (nat_lt x y) Less (cond (nat_lt y x) Greater Equal)

abbrev pub order : List ℕ → List ℕ → Ordering
order xs ys = lexical number_order xs ys
