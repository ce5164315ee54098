-- A text cut at its separators: the first piece and the others.
use Rattle.std.proofs.Common.{◌≡◌, ℕ, zero, suc, ◌+◌, ◌<◌, ◌≤◌, Bool, true, false, cond, not, eqb, ltb, List, [], ◌∷◌, length, take, drop, sym, refl, ap, ◌∙◌, ⊎_elim, one-add, arith}
use Rattle.std.proofs.lemmas.Bool.{cases_Bool}
use Rattle.std.proofs.lemmas.Bool.Decides.{nat_tests}
use Rattle.text.specs.Bytes.{pieces, onto_first}
use Rattle.text.specs.Cuts.{span_to, front_to, pace_to}

-- what comes after the first piece
abbrev pub after_at : ℕ → Bool → ℕ → List ℕ → List (List ℕ)
after_at sep t p bs = cond t (pieces sep (drop p bs)) []

module _ (sep : ℕ) where
  span_here : (b : ℕ) (bs : List ℕ) → eqb b sep ≡ true → span_to sep (b ∷ bs) ≡ 0
  span_here b bs e = ap (λ t. cond (not t) (1 + span_to sep bs) 0) e

  span_cons : (b : ℕ) (bs : List ℕ) → eqb b sep ≡ false → span_to sep (b ∷ bs) ≡ suc (span_to sep bs)
  span_cons b bs e = ap (λ t. cond (not t) (1 + span_to sep bs) 0) e ∙ one-add (span_to sep bs)

  pace_here : (b : ℕ) (bs : List ℕ) → eqb b sep ≡ true → pace_to sep (b ∷ bs) ≡ suc zero
  pace_here b bs e = let h = span_here b bs e in grind (arith, nat_tests)

  pace_cons : (b : ℕ) (bs : List ℕ) → eqb b sep ≡ false → pace_to sep (b ∷ bs) ≡ suc (pace_to sep bs)
  pace_cons b bs e = let h = span_cons b bs e in grind (arith, nat_tests)

  pub within_cons : (b : ℕ) (bs : List ℕ) → eqb b sep ≡ false → ltb (span_to sep (b ∷ bs)) (length (b ∷ bs)) ≡ ltb (span_to sep bs) (length bs)
  within_cons b bs e = let h = span_cons b bs e in grind (arith, nat_tests)

  within_here : (b : ℕ) (bs : List ℕ) → eqb b sep ≡ true → ltb (span_to sep (b ∷ bs)) (length (b ∷ bs)) ≡ true
  within_here b bs e = let h = span_here b bs e in grind (arith, nat_tests)

  -- the first piece, and those of what comes after it, if a separator follows it
  pub first_after : (bs : List ℕ) → pieces sep bs ≡ front_to sep bs ∷ after_at sep (ltb (span_to sep bs) (length bs)) (pace_to sep bs) bs
  first_after [] = refl
  first_after (b ∷ bs) =
      ⊎_elim
      (λ (y : eqb b sep ≡ true).
      ap (λ t. cond t ([] ∷ pieces sep bs) (onto_first b (pieces sep bs))) y
      ∙ sym (λ i. take (span_here b bs y i) (b ∷ bs) ∷ after_at sep (within_here b bs y i) (pace_here b bs y i) (b ∷ bs)))
      (λ (n : eqb b sep ≡ false).
      ap (λ t. cond t ([] ∷ pieces sep bs) (onto_first b (pieces sep bs))) n
      ∙ ap (onto_first b) (first_after bs)
      ∙ sym (λ i. take (span_cons b bs n i) (b ∷ bs) ∷ after_at sep (within_cons b bs n i) (pace_cons b bs n i) (b ∷ bs)))
      (cases_Bool (eqb b sep))

pub piece_and_more : (sep : ℕ) (s : List ℕ) → span_to sep s < length s → pieces sep s ≡ front_to sep s ∷ pieces sep (drop (span_to sep s + 1) s)
piece_and_more sep s l =
    let y : ltb (span_to sep s) (length s) ≡ true = grind (arith, nat_tests) in
    let p : pace_to sep s ≡ span_to sep s + 1 = grind (arith, nat_tests) in
    first_after sep s ∙ (λ i. front_to sep s ∷ after_at sep (y i) (p i) s)

pub piece_alone : (sep : ℕ) (s : List ℕ) → length s ≤ span_to sep s → pieces sep s ≡ front_to sep s ∷ []
piece_alone sep s l =
    let n : ltb (span_to sep s) (length s) ≡ false = grind (arith, nat_tests) in
    first_after sep s ∙ (λ i. front_to sep s ∷ after_at sep (n i) (pace_to sep s) s)
