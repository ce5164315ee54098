-- Where a field starts: each field before it and its semicolon stand before it.
use Rattle.std.proofs.Common.{◌≡◌, ℕ, zero, suc, ◌+◌, ◌-◌, ◌<◌, ◌≤◌, true, false, cond, eqb, List, [], ◌∷◌, length, take, sum_by, sym, refl, ap, ◌∙◌, ⊎_elim, arith}
use Rattle.std.specs.List.{slice_split, onto_first}
use Rattle.std.proofs.lemmas.List.Sums.{sum_by-cons}
use Rattle.std.proofs.lemmas.Bool.{cases_Bool}
use Rattle.text.specs.Bytes.{Bytes, start}
use Rattle.text.specs.Bytes as text
use Rattle.text.specs.Rows.{fields}

-- a field and its semicolon
abbrev pub bytes_taken : Bytes → ℕ
bytes_taken t = length t + 1

same_onto_first : (b : ℕ) (ts : List Bytes) → text.onto_first b ts ≡ onto_first b ts
same_onto_first b [] = refl
same_onto_first b (t ∷ ts) = refl

pub fields_split : (bs : Bytes) → fields bs ≡ slice_split (λ b. eqb b 59) bs
fields_split [] = refl
fields_split (b ∷ bs) = λ i. cond (eqb b 59) ([] ∷ fields_split bs i) (same_onto_first b (fields_split bs i) i)

-- ---- The start is a sum

start_suc : (n : ℕ) (ts : List Bytes) → start (suc n) ts ≡ sum_by bytes_taken (take n ts)
start_suc zero ts = refl
start_suc (suc n) [] = refl
start_suc (suc n) (t ∷ ts) = ap (λ s. length t + 1 + s) (start_suc n ts) ∙ sym (sum_by-cons bytes_taken t (take n ts))

pub start_sum : (f : ℕ) (ts : List Bytes) → start f ts ≡ sum_by bytes_taken (take (f - 1) ts)
start_sum zero ts = let m : 0 ≡ zero - 1 = omega arith in ap (λ m. sum_by bytes_taken (take m ts)) m
start_sum (suc n) ts = let m : n ≡ suc n - 1 = omega arith in start_suc n ts ∙ ap (λ m. sum_by bytes_taken (take m ts)) m

-- ---- The sum is within the text

take_le : (n : ℕ) (ts : List Bytes) → sum_by bytes_taken (take n ts) ≤ sum_by bytes_taken ts
take_le zero ts = omega arith
take_le (suc n) [] = omega arith
take_le (suc n) (t ∷ ts) = omega (arith, take_le n ts, sum_by-cons bytes_taken t (take n ts), sum_by-cons bytes_taken t ts)

taken_onto_first : (b : ℕ) (ts : List Bytes) → 0 < sum_by bytes_taken ts → sum_by bytes_taken (text.onto_first b ts) ≡ sum_by bytes_taken ts + 1
taken_onto_first b [] h = absurd (omega (arith, h))
taken_onto_first b (t ∷ ts) h = omega (arith, sum_by-cons bytes_taken (b ∷ t) ts, sum_by-cons bytes_taken t ts)

taken_all : (bs : Bytes) → sum_by bytes_taken (fields bs) ≡ length bs + 1
taken_all [] = refl
taken_all (b ∷ bs) =
    let h = taken_all bs in
    let more = taken_onto_first b (fields bs) (omega (arith, h)) in
    let one = sum_by-cons bytes_taken [] (fields bs) in
    ⊎_elim
    (λ (y : eqb b 59 ≡ true). ap (λ t. sum_by bytes_taken (cond t ([] ∷ fields bs) (text.onto_first b (fields bs)))) y ∙ omega (arith, one, h))
    (λ (n : eqb b 59 ≡ false). ap (λ t. sum_by bytes_taken (cond t ([] ∷ fields bs) (text.onto_first b (fields bs)))) n ∙ omega (arith, more, h))
    (cases_Bool (eqb b 59))

pub taken_within : (n : ℕ) (bs : Bytes) → sum_by bytes_taken (take n (fields bs)) ≤ length bs + 1
taken_within n bs = omega (arith, take_le n (fields bs), taken_all bs)
