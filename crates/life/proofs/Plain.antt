-- The pairs of a store as plain data: the same look-ups, and what they become when the store changes.
use Rattle.std.proofs.Common.{◌≡◌, ℕ, ◌≤◌, Bool, true, false, cond, List, [], ◌∷◌, length, Some, None, Option, sym, refl, ap, ◌∙◌, ⊎_elim, arith}
use lib.ListN.{length-map}
use Rattle.std.proofs.lemmas.Bool.{cond-false, cases_Bool}
use Rattle.std.specs.Option.{option_map}
use Rattle.life.specs.declared.key.Key.{Key}
use Rattle.life.specs.declared.life.Life.{Life}
use Rattle.life.specs.Acts.{life_in}
use Rattle.life.specs.Keys.{same_key, alike}
use Rattle.life.specs.Pairs as pairs
use Rattle.life.specs.Parts.{KeyParts, LifeParts, key_parts, life_parts}
use Rattle.life.specs.Lives.{Lives, plain_pair, plain, look, Unique, Same, altered, erase}
use Rattle.life.proofs.KeyOrder.{parts_eq}
use Rattle.life.proofs.Lookups as stored
use Rattle.life.proofs.Lives.{look_erase, look_put, look_altered_at, unique_from, length_same}

-- ---- Look-ups

life_in_cond : (t : Bool) (l : Life) (o : Option Life) → life_in (cond t (Some l) o) ≡ cond t (Some (life_parts l)) (life_in o)
life_in_cond true l o = refl
life_in_cond false l o = refl

pub plain_look : (k : Key) (xs : List (Key × Life)) → look (key_parts k) (plain xs) ≡ life_in (pairs.look k xs)
unfolding alike
plain_look k [] = refl
plain_look k (p ∷ xs) =
    ap (cond (same_key (key_parts k) (key_parts p.0)) (Some (life_parts p.1))) (plain_look k xs)
    ∙ sym (life_in_cond (same_key (key_parts k) (key_parts p.0)) p.1 (pairs.look k xs))

pub plain_erase : (k : Key) (xs : List (Key × Life)) → plain (pairs.erase k xs) ≡ erase (key_parts k) (plain xs)
unfolding alike
plain_erase k [] = refl
plain_erase k (p ∷ xs) =
    by (same_key (key_parts k) (key_parts p.0)) (pairs.erase k xs) (erase (key_parts k) (plain xs)) (plain_erase k xs)
  where
    by : (t : Bool) (ys : List (Key × Life)) (ps : Lives) → plain ys ≡ ps → plain (cond t ys (p ∷ ys)) ≡ cond t ps (plain_pair p ∷ ps)
    by true ys ps e = e
    by false ys ps e = ap (λ qs. plain_pair p ∷ qs) e

pub plain_unique : (xs : List (Key × Life)) → pairs.Unique xs → Unique (plain xs)
plain_unique [] u = refl
plain_unique (p ∷ xs) u =
    let q = stored.unique_parts p xs u in
    unique_from (plain_pair p) (plain xs) (plain_look p.0 xs ∙ ap life_in q.0) (plain_unique xs q.1)

pub plain_fits : (xs : List (Key × Life)) (room : ℕ) → length xs ≤ room → length (plain xs) ≤ room
plain_fits xs room h = omega (arith, length-map xs plain_pair)

-- a key that has a life in plain data is one of the store's
held_key : (j : KeyParts) (l : LifeParts) (xs : List (Key × Life)) → look j (plain xs) ≡ Some l → (k : Key) × (j ≡ key_parts k)
held_key j l [] e = let z : ◌≡◌ {A = ℕ} 0 1 = cc in absurd (omega arith)
held_key j l (p ∷ xs) e =
    ⊎_elim
    (λ t. (p.0, parts_eq j (key_parts p.0) t))
    (λ f. held_key j l xs (sym (cond-false _ _ _ f) ∙ e))
    (cases_Bool (same_key j (key_parts p.0)))

same_at : (xs ys : List (Key × Life)) → pairs.Same xs ys → (j : KeyParts) (k : Key) → j ≡ key_parts k → look j (plain xs) ≡ look j (plain ys)
same_at xs ys h j k e =
    ap (λ q. look q (plain xs)) e ∙ plain_look k xs ∙ ap life_in (h k) ∙ sym (ap (λ q. look q (plain ys)) e ∙ plain_look k ys)

-- stores with the same look-ups have them as plain data too
pub plain_same : (xs ys : List (Key × Life)) → pairs.Same xs ys → Same (plain xs) (plain ys)
plain_same xs ys h j = by (look j (plain xs)) (look j (plain ys)) refl refl
  where
    by : (o q : Option LifeParts) → look j (plain xs) ≡ o → look j (plain ys) ≡ q → look j (plain xs) ≡ look j (plain ys)
    by None None e f = e ∙ sym f
    by (Some l) q e f = let k = held_key j l xs e in same_at xs ys h j k.0 k.1
    by None (Some l) e f = let k = held_key j l ys f in same_at xs ys h j k.0 k.1

-- ---- What a store's changes are to the lives that it holds

module _ (k : Key) (xs xs' : List (Key × Life)) (ls : Lives) (s : Same (plain xs) ls) where
  -- a life put in, at each key
  put_at : (l : Life) → pairs.Same xs' ((k, l) ∷ pairs.erase k xs) → (j : KeyParts) → look j (plain xs') ≡ cond (same_key j (key_parts k)) (Some (life_parts l)) (look j ls)
  put_at l h j =
      plain_same xs' ((k, l) ∷ pairs.erase k xs) h j
      ∙ ap (λ ps. look j ((key_parts k, life_parts l) ∷ ps)) (plain_erase k xs)
      ∙ look_put j (key_parts k) (life_parts l) (plain xs)
      ∙ ap (cond (same_key j (key_parts k)) (Some (life_parts l))) (s j)

  -- a life enters
  pub plain_entered : (l : Life) → pairs.Same xs' ((k, l) ∷ pairs.erase k xs) → Same (plain xs') ((key_parts k, life_parts l) ∷ ls)
  plain_entered l h j = put_at l h j

  -- a life is altered
  pub plain_altered : (old : LifeParts) (f : LifeParts → LifeParts) (l : Life) → look (key_parts k) ls ≡ Some old → f old ≡ life_parts l → pairs.Same xs' ((k, l) ∷ pairs.erase k xs) → Same (plain xs') (altered (key_parts k) f ls)
  plain_altered old f l found is h j =
      put_at l h j
      ∙ ap (λ o. cond (same_key j (key_parts k)) o (look j ls)) (sym (ap (option_map f) found ∙ ap Some is))
      ∙ sym (look_altered_at j (key_parts k) f ls)

  -- a life goes
  pub plain_removed : pairs.Same xs' (pairs.erase k xs) → Same (plain xs') (erase (key_parts k) ls)
  plain_removed h j =
      plain_same xs' (pairs.erase k xs) h j
      ∙ ap (look j) (plain_erase k xs)
      ∙ look_erase j (key_parts k) (plain xs)
      ∙ ap (cond (same_key j (key_parts k)) None) (s j)
      ∙ sym (look_erase j (key_parts k) ls)

-- as many lives as pairs
pub plain_length : (xs : List (Key × Life)) (ls : Lives) → pairs.Unique xs → Unique ls → Same (plain xs) ls → length ls ≡ length xs
plain_length xs ls u w s = sym (length_same (plain xs) ls (plain_unique xs u) w s) ∙ length-map xs plain_pair
