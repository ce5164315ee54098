-- Tests of every byte of a text, as a fold makes them, and of the elements of a list, as `all` and `any` do.
use Rattle.std.proofs.Common.{◌≡◌, ℕ, zero, suc, ◌<◌, Bool, true, false, ◌&&◌, ◌||◌, List, [], ◌∷◌, length, map, sym, refl, ap, ◌∙◌, arith}
use Rattle.std.proofs.Math.Bool.{and_assoc, and-true, and-false, or-true}
use Rattle.std.specs.Bool.{MatchBool}
use Rattle.std.specs.List.{fold, HoldsAt, AllWithin}
use Rattle.text.specs.Bytes.{every, some}

pub fold_every : (p : ℕ → Bool) (a : Bool) (s : List ℕ) → fold (λ good b. good && p b) a s ≡ a && every p s
fold_every p a [] = sym (and-true a)
fold_every p a (b ∷ bs) = fold_every p (a && p b) bs ∙ and_assoc a (p b) (every p bs)

module _ {X : Type 0} (p : X → Bool) where
  -- what `any` found: an element that passes, or that none does
  some_at : (xs : List X) (k : ℕ) → k < length xs → HoldsAt (λ x. p x ≡ true) xs k → true ≡ some p xs
  some_at [] k l h = absurd (omega arith)
  some_at (x ∷ xs) zero l h = ap (λ b. b || some p xs) (sym (h x))
  some_at (x ∷ xs) (suc k) l h = sym (or-true (p x)) ∙ ap (λ b. p x || b) (some_at xs k (omega arith) h)

  none_passes : (xs : List X) → AllWithin (λ x. p x ≡ false) xs 0 (length xs) → false ≡ some p xs
  none_passes [] h = refl
  none_passes (x ∷ xs) h =
      none_passes xs (λ k d l m. h (suc k) d (omega arith) (omega arith))
      ∙ ap (λ b. b || some p xs) (sym (h 0 x (omega arith) (omega arith)))

  pub some_found : (xs : List X) (r : Bool) → MatchBool r ((k : ℕ) × (k < length xs) × HoldsAt (λ x. p x ≡ true) xs k) (AllWithin (λ x. p x ≡ false) xs 0 (length xs)) → r ≡ some p xs
  some_found xs true h = some_at xs h.0 h.1 h.2
  some_found xs false h = none_passes xs h

  -- what `all` found: that every element passes, or one that does not
  all_pass : (xs : List X) → AllWithin (λ x. p x ≡ true) xs 0 (length xs) → true ≡ every p xs
  all_pass [] h = refl
  all_pass (x ∷ xs) h =
      all_pass xs (λ k d l m. h (suc k) d (omega arith) (omega arith))
      ∙ ap (λ b. b && every p xs) (sym (h 0 x (omega arith) (omega arith)))

  one_fails : (xs : List X) (k : ℕ) → k < length xs → HoldsAt (λ x. p x ≡ false) xs k → false ≡ every p xs
  one_fails [] k l h = absurd (omega arith)
  one_fails (x ∷ xs) zero l h = ap (λ b. b && every p xs) (sym (h x))
  one_fails (x ∷ xs) (suc k) l h = sym (and-false (p x)) ∙ ap (λ b. p x && b) (one_fails xs k (omega arith) h)

  pub every_found : (xs : List X) (r : Bool) → MatchBool r (AllWithin (λ x. p x ≡ true) xs 0 (length xs)) ((k : ℕ) × (k < length xs) × HoldsAt (λ x. p x ≡ false) xs k) → r ≡ every p xs
  every_found xs true h = all_pass xs h
  every_found xs false h = one_fails xs h.0 h.1 h.2

pub some_map : {X Y : Type 0} (p : Y → Bool) (f : X → Y) (xs : List X) → some (λ x. p (f x)) xs ≡ some p (map f xs)
some_map p f [] = refl
some_map p f (x ∷ xs) = ap (λ b. p (f x) || b) (some_map p f xs)
