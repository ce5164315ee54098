-- The fields that a reader comes to are those of the line cut at its semicolons.
use Rattle.std.proofs.Common.{◌≡◌, ℕ, zero, suc, ◌+◌, ◌<◌, ◌≤◌, Bool, true, false, cond, eqb, ltb, sum_by, List, ◌∷◌, length, drop, count_by, sym, refl, ap, ◌∙◌, ⊎_elim, add_assoc, arith}
use Rattle.std.specs.Int.{from_bool}
use Rattle.std.proofs.lemmas.List.{drop-drop, length-take-le}
use Rattle.std.proofs.lemmas.List.Sums.{count_by-le-length}
use Rattle.std.proofs.lemmas.List.Splits.{length-slice_split}
use Rattle.std.proofs.lemmas.Bool.{cases_Bool}
use Rattle.std.proofs.lemmas.Bool.Decides.{nat_tests}
use Rattle.text.specs.Bytes.{Bytes, piece, start}
use Rattle.text.specs.Cuts.{span_to}
use Rattle.text.specs.Rows.{fields}
use Rattle.text.proofs.Pieces.{first_after, after_at}
use Rattle.line.specs.Reads.{front, pace}
use Rattle.line.proofs.Starts.{fields_split}

-- the offset of field k, from 0, and its bytes, as a reader finds them
unfoldable pub offset : ℕ → Bytes → ℕ
offset zero bs = 0
offset (suc k) bs = offset k bs + pace (drop (offset k bs) bs)

abbrev pub text : ℕ → Bytes → Bytes
text k bs = front (drop (offset k bs) bs)

-- how many semicolons a text has
abbrev pub separators_in : Bytes → ℕ
separators_in bs = count_by (λ b. eqb b 59) bs

-- what a byte adds to their number
abbrev pub is_separator : ℕ → ℕ
is_separator b = from_bool (eqb b 59)

one_or_none : (t : Bool) → from_bool t ≡ cond t 1 0
one_or_none true = refl
one_or_none false = refl

pub separators_sum : (bs : Bytes) → sum_by is_separator bs ≡ separators_in bs
separators_sum bs = λ i. sum_by (λ b. one_or_none (eqb b 59) i) bs

pub separators_within : (bs : Bytes) → sum_by is_separator bs ≤ length bs
separators_within bs = omega (arith, separators_sum bs, count_by-le-length (λ b. eqb b 59) bs)

-- there is one field more than there are semicolons
pub one_more : (bs : Bytes) → length (fields bs) ≡ separators_in bs + 1
one_more bs = ap length (fields_split bs) ∙ length-slice_split (λ b. eqb b 59) bs

offset_shift : (k : ℕ) (bs : List ℕ) → offset (suc k) bs ≡ pace bs + offset k (drop (pace bs) bs)
unfolding offset
offset_shift zero bs = omega arith
offset_shift (suc k) bs =
    ap (λ x. x + pace (drop x bs)) (offset_shift k bs)
    ∙ ap (λ l. (pace bs + offset k (drop (pace bs) bs)) + pace l) (sym (drop-drop (offset k (drop (pace bs) bs)) (pace bs) bs))
    ∙ add_assoc (pace bs) (offset k (drop (pace bs) bs)) _

pub offset_zero : (bs : List ℕ) → offset zero bs ≡ 0
unfolding offset
offset_zero bs = refl

-- where there is a second field, the first one is followed by a separator
second : (k : ℕ) (bs : List ℕ) → suc k < length (fields bs) → ltb (span_to 59 bs) (length bs) ≡ true
second k bs h =
    let long = ap length (first_after 59 bs) in
    ⊎_elim
    (λ (y : ltb (span_to 59 bs) (length bs) ≡ true). y)
    (λ (n : ltb (span_to 59 bs) (length bs) ≡ false).
    let l = ap (λ t. length (after_at 59 t (pace bs) bs)) n in
    absurd (omega (arith, long, l)))
    (cases_Bool (ltb (span_to 59 bs) (length bs)))

-- and the others are those of what comes after it
later : (k : ℕ) (bs : List ℕ) → suc k < length (fields bs) → fields bs ≡ front bs ∷ fields (drop (pace bs) bs)
later k bs h = first_after 59 bs ∙ ap (λ t. front bs ∷ after_at 59 t (pace bs) bs) (second k bs h)

-- the bytes of field k are the piece k + 1 of the line, and it stands at its start
pub texts : (k : ℕ) (bs : Bytes) → k < length (fields bs) → text k bs ≡ piece (suc k) (fields bs)
texts zero bs h = ap (λ o. front (drop o bs)) (offset_zero bs) ∙ ap (λ fs. piece 1 fs) (sym (first_after 59 bs))
texts (suc k) bs h =
    let e = later k bs h in
    let l = ap length e in
    ap (λ o. front (drop o bs)) (offset_shift k bs)
    ∙ ap front (sym (drop-drop (offset k (drop (pace bs) bs)) (pace bs) bs))
    ∙ texts k (drop (pace bs) bs) (omega (arith, l))
    ∙ sym (ap (λ fs. piece (suc (suc k)) fs) e)

pub offset_next : (k : ℕ) (bs : Bytes) → offset (suc k) bs ≡ offset k bs + pace (drop (offset k bs) bs)
unfolding offset
offset_next k bs = refl

pace_is : (bs : List ℕ) → ltb (span_to 59 bs) (length bs) ≡ true → pace bs ≡ length (front bs) + 1
pace_is bs y = grind (arith, nat_tests, length-take-le)

pub starts : (k : ℕ) (bs : Bytes) → k < length (fields bs) → offset k bs ≡ start (suc k) (fields bs)
starts zero bs h = offset_zero bs
starts (suc k) bs h =
    let e = later k bs h in
    let l = ap length e in
    offset_shift k bs
    ∙ (λ i. pace_is bs (second k bs h) i + starts k (drop (pace bs) bs) (omega (arith, l)) i)
    ∙ sym (ap (λ fs. start (suc (suc k)) fs) e)
