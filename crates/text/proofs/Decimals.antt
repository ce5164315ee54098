-- A decimal, cut at its dot.
use Rattle.std.proofs.Common.{◌≡◌, ℕ, zero, suc, Bool, List, slice_index, ◌+◌, ◌-◌, ◌*◌, ◌^◌, ◌<◌, ◌≤◌, true, false, ◌&&◌, eqb, ltb, [], ◌∷◌, length, take, drop, Some, None, Option, sym, refl, ap, ◌∙◌, ⊎_elim, arith}
use Rattle.std.specs.Bool.{then_some}
use Rattle.std.specs.Char.{is_ascii_digit}
use Rattle.std.proofs.Math.Bool.{and-false}
use Rattle.std.proofs.lemmas.List.{take_all, take_rest}
use Rattle.std.proofs.lemmas.List.Sums.{prefix_len-le-length}
use Rattle.std.proofs.lemmas.Bool.{cases_Bool}
use Rattle.std.proofs.lemmas.Bool.Decides.{nat_tests}
use Rattle.text.specs.Bytes.{Bytes, every, pieces, provided, then, between}
use Rattle.text.specs.Cuts.{span_to, front_to, pace_to}
use Rattle.text.specs.Forms.{digits_form, written, at_most, decimal_of, decimal_form}
use Rattle.text.proofs.Pieces.{first_after, after_at, within_cons}

-- a text with a dot is not all digits
dotted : (s : Bytes) → ltb (span_to 46 s) (length s) ≡ true → every is_ascii_digit s ≡ false
dotted [] h = absurd (let z : ◌≡◌ {A = ℕ} 0 1 = cc in omega arith)
dotted (b ∷ bs) h =
    ⊎_elim
    (λ (y : eqb b 46 ≡ true). let d : is_ascii_digit b ≡ false = grind (arith, nat_tests) in ap (λ t. t && every is_ascii_digit bs) d)
    (λ (n : eqb b 46 ≡ false).
    let e = dotted bs (sym (within_cons 46 b bs n) ∙ h) in
    ap (λ t. is_ascii_digit b && t) e ∙ and-false (is_ascii_digit b))
    (cases_Bool (eqb b 46))

alone : (s : Bytes) → ltb (span_to 46 s) (length s) ≡ false → pieces 46 s ≡ s ∷ []
alone s n =
    let w : take (span_to 46 s) s ≡ s = grind (arith, nat_tests, take_all, prefix_len-le-length) in
    first_after 46 s ∙ (λ i. w i ∷ after_at 46 (n i) (pace_to 46 s) s)

parted : (s : Bytes) → ltb (span_to 46 s) (length s) ≡ true → pieces 46 s ≡ front_to 46 s ∷ pieces 46 (drop (span_to 46 s + 1) s)
parted s y =
    let p : pace_to 46 s ≡ span_to 46 s + 1 = grind (arith, nat_tests) in
    first_after 46 s ∙ (λ i. front_to 46 s ∷ after_at 46 (y i) (p i) s)

abbrev pub in_two : ℕ → Bytes → Bytes → Option ℕ
in_two most w p = then (digits_form most w) (λ n. then (digits_form 5 p) (λ m. Some (n * 100_000 + m * 10 ^ (5 - length p))))

then_none : (o : Option ℕ) → then {W = ℕ} o (λ _. None) ≡ None
then_none None = refl
then_none (Some v) = refl

no_digits : (n : ℕ) (p : Bytes) → every is_ascii_digit p ≡ false → digits_form n p ≡ None
no_digits n p e = ap (λ t. provided (between 1 n (length p) && t) (written 0 p)) e ∙ ap (λ t. provided t (written 0 p)) (and-false (between 1 n (length p)))

-- what is left after the dot is one piece, or has a dot of its own and is no number
two : (most : ℕ) (w p : Bytes) → decimal_of most (w ∷ pieces 46 p) ≡ in_two most w p
two most w p =
    ⊎_elim
    (λ (y : ltb (span_to 46 p) (length p) ≡ true).
    ap (λ ts. decimal_of most (w ∷ ts)) (parted p y ∙ ap (λ ts. front_to 46 p ∷ ts) (first_after 46 (drop (span_to 46 p + 1) p)))
    ∙ sym (ap (λ o. then (digits_form most w) (λ n. then o (λ m. Some (n * 100_000 + m * 10 ^ (5 - length p))))) (no_digits 5 p (dotted p y)) ∙ then_none (digits_form most w)))
    (λ (n : ltb (span_to 46 p) (length p) ≡ false). ap (λ ts. decimal_of most (w ∷ ts)) (alone p n))
    (cases_Bool (ltb (span_to 46 p) (length p)))

module _ (most limit : ℕ) (s : Bytes) where
  pub whole_only : length s ≤ span_to 46 s → decimal_form most limit s ≡ then (then (digits_form most s) (λ n. Some (n * 100_000))) (at_most (limit * 100_000))
  unfolding decimal_form
  whole_only h = ap (λ ts. then (decimal_of most ts) (at_most (limit * 100_000))) (alone s (grind (arith, nat_tests)))

  pub with_part : span_to 46 s < length s → decimal_form most limit s ≡ then (in_two most (front_to 46 s) (drop (span_to 46 s + 1) s)) (at_most (limit * 100_000))
  unfolding decimal_form
  with_part h =
      ap (λ ts. then (decimal_of most ts) (at_most (limit * 100_000))) (parted s (grind (arith, nat_tests)))
      ∙ ap (λ o. then o (at_most (limit * 100_000))) (two most (front_to 46 s) (drop (span_to 46 s + 1) s))

-- what the code finds, a step at a time: w bytes before the dot
module _ (most limit w : ℕ) (s : Bytes) (e : w ≡ span_to 46 s) where
  the_front : take w s ≡ front_to 46 s
  the_front = ap (λ n. take n s) e

  the_rest : take (length s - (w + 1)) (drop (w + 1) s) ≡ drop (span_to 46 s + 1) s
  the_rest = take_rest s (w + 1) ∙ ap (λ n. drop n s) (omega arith)

  all_front : length s ≤ w → front_to 46 s ≡ s
  all_front h = grind (arith, nat_tests, take_all)

  pub no_whole : None ≡ digits_form most (take w s) → None ≡ decimal_form most limit s
  no_whole d =
      let f : digits_form most (front_to 46 s) ≡ None = ap (digits_form most) (sym the_front) ∙ sym d in
      ⊎_elim
      (λ (y : ltb (span_to 46 s) (length s) ≡ true).
      sym (with_part most limit s (grind (arith, nat_tests)) ∙ ap (λ o. then (then o (λ n. then (digits_form 5 (drop (span_to 46 s + 1) s)) (λ m. Some (n * 100_000 + m * 10 ^ (5 - length (drop (span_to 46 s + 1) s)))))) (at_most (limit * 100_000))) f))
      (λ (n : ltb (span_to 46 s) (length s) ≡ false).
      let l : length s ≤ span_to 46 s = grind (arith, nat_tests) in
      sym (whole_only most limit s l ∙ ap (λ o. then (then o (λ n. Some (n * 100_000))) (at_most (limit * 100_000))) (ap (digits_form most) (sym (all_front (omega arith))) ∙ f)))
      (cases_Bool (ltb (span_to 46 s) (length s)))

  pub only_whole : (n : ℕ) → Some n ≡ digits_form most (take w s) → w ≡ length s → at_most (limit * 100_000) (n * 100_000) ≡ decimal_form most limit s
  only_whole n d l =
      let f : digits_form most s ≡ Some n = ap (digits_form most) (sym (the_front ∙ all_front (omega arith))) ∙ sym d in
      sym (whole_only most limit s (omega arith) ∙ ap (λ o. then (then o (λ n. Some (n * 100_000))) (at_most (limit * 100_000))) f)

  module _ (n : ℕ) (d : Some n ≡ digits_form most (take w s)) (l : w < length s) where
    inside : decimal_form most limit s ≡ then (then (digits_form 5 (take (length s - (w + 1)) (drop (w + 1) s))) (λ m. Some (n * 100_000 + m * 10 ^ (5 - length (take (length s - (w + 1)) (drop (w + 1) s)))))) (at_most (limit * 100_000))
    inside =
        let f : digits_form most (front_to 46 s) ≡ Some n = ap (digits_form most) (sym the_front) ∙ sym d in
        with_part most limit s (omega arith)
        ∙ ap (λ o. then (then o (λ n. then (digits_form 5 (drop (span_to 46 s + 1) s)) (λ m. Some (n * 100_000 + m * 10 ^ (5 - length (drop (span_to 46 s + 1) s)))))) (at_most (limit * 100_000))) f
        ∙ ap (λ p. then (then (digits_form 5 p) (λ m. Some (n * 100_000 + m * 10 ^ (5 - length p)))) (at_most (limit * 100_000))) (sym the_rest)

    pub no_part : None ≡ digits_form 5 (take (length s - (w + 1)) (drop (w + 1) s)) → None ≡ decimal_form most limit s
    no_part g = sym (inside ∙ ap (λ o. then (then o (λ m. Some (n * 100_000 + m * 10 ^ (5 - length (take (length s - (w + 1)) (drop (w + 1) s)))))) (at_most (limit * 100_000))) (sym g))

    pub both_parts : (m : ℕ) → Some m ≡ digits_form 5 (take (length s - (w + 1)) (drop (w + 1) s)) → at_most (limit * 100_000) (n * 100_000 + m * 10 ^ (5 - length (take (length s - (w + 1)) (drop (w + 1) s)))) ≡ decimal_form most limit s
    both_parts m g = sym (inside ∙ ap (λ o. then (then o (λ m. Some (n * 100_000 + m * 10 ^ (5 - length (take (length s - (w + 1)) (drop (w + 1) s)))))) (at_most (limit * 100_000))) (sym g))

-- a number that is kept where a test holds
pub kept : (test : Bool) (n : ℕ) → then_some test n ≡ provided test n
kept true n = refl
kept false n = refl

-- the table of powers of ten
abbrev pub powers : List ℕ
powers = 1 ∷ 10 ∷ 100 ∷ 1_000 ∷ 10_000 ∷ 100_000 ∷ []

pub power_there : (k : ℕ) → k ≤ 5 → slice_index powers k ≡ 10 ^ k
power_there zero l = refl
power_there (suc zero) l = refl
power_there (suc (suc zero)) l = refl
power_there (suc (suc (suc zero))) l = refl
power_there (suc (suc (suc (suc zero)))) l = refl
power_there (suc (suc (suc (suc (suc zero))))) l = refl
power_there (suc (suc (suc (suc (suc (suc k)))))) l = absurd (omega arith)
