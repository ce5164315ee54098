-- What stands where in a table, and what that says of the pairs.
use Rattle.std.proofs.Common.{◌≡◌, ℕ, zero, suc, ◌+◌, ◌<◌, ◌≤◌, cond, leb, ◌⊎◌, List, ◌∷◌, length, get_or, set, Some, None, Option, Less, Equal, Greater, sym, refl, ap, ◌∙◌, subst, inl, inr, ⊎_elim, true≢false, arith}
use mathlib.Core.Logic.{∥∥₁_elim}
use std.HLevel.{Π_prop}
use native.Mathlib.Bridge.{le_prop}
use base.Stored.{Coded-set, coded_bool}
use Rattle.std.proofs.lemmas.List.{get_or-set_same, get_or-set_other, get_or_read, get_or_default}
use Rattle.std.proofs.lemmas.Bool.{cases_order, cases_eq, cases_Bool, cond-true, cond-false, cond_both}
use Rattle.std.specs.Ordering.{is_lt}
use Rattle.life.specs.declared.key.Key.{Key}
use Rattle.life.specs.declared.life.Life.{Life}
use Rattle.life.specs.Keys.{alike, rank, Before}
use Rattle.life.specs.Pairs.{look, erase, Unique, Same}
use Rattle.life.proofs.KeyOrder.{strict, key_eq, key_same}
use Rattle.life.proofs.Lookups.{look_erase, look_put, unique_from}
use Rattle.ordered.specs.declared.entry.Entry.{Entry}
use Rattle.ordered.specs.Table.{at, room_of, pairs_of, Sound, Held}

sound_prop : {s : List Entry} {c : ℕ} → IsProp (Sound s c)
sound_prop p q = λ i. record {
  fits = le_prop p.fits q.fits i;
  rising = Π_prop (λ _. Π_prop (λ _. Π_prop (λ _. Π_prop (λ _. Coded-set coded_bool _ _)))) p.rising q.rising i;
}

pub opened : {s : List Entry} {c : ℕ} → Held s c → Sound s c
opened h = ∥∥₁_elim h.in_order sound_prop (λ x. x)

-- ---- one write

pub at_same : (s : List Entry) (i : ℕ) (e : Entry) → i < length s → (m : ℕ) → m ≡ i → at (set s i e) m ≡ e
at_same s i e l m q = ap (at (set s i e)) q ∙ get_or-set_same s i e _ l

pub at_other : (s : List Entry) (i : ℕ) (e : Entry) (m : ℕ) → (m ≡ i → ⊥) → at (set s i e) m ≡ at s m
at_other s i e m n = get_or-set_other s i m e _ n

-- what a read gives
pub at_read : (s : List Entry) (i : ℕ) (e : Entry) → i < length s → e ≡ get_or s i e → e ≡ at s i
at_read s i e l h = get_or_read s i e l h _

-- ---- the room

pub room_within : (s : List Entry) → room_of s ≤ length s
room_within s = cond_both (leb (length s) 65535) (length s) 0 (λ n. n ≤ length s) (λ _. omega arith) (λ _. omega arith)

pub room_to : (s t : List Entry) → length t ≡ length s → room_of t ≡ room_of s
room_to s t e = ap (λ n. cond (leb n 65535) n 0) e

pub fits_to : (s t : List Entry) (n : ℕ) → length t ≡ length s → n ≤ room_of s → n ≤ room_of t
fits_to s t n e h = subst (λ r. n ≤ r) (sym (room_to s t e)) h

-- ---- the order

pub rise : (a b c d : Key) → Before a b → c ≡ a → d ≡ b → Before c d
rise a b c d h p q = subst (λ x. Before x d) (sym p) (subst (λ y. Before a y) (sym q) h)

pub before_apart : (a b : Key) → Before a b → a ≡ b → ⊥
before_apart a b h e = strict.never_itself b (subst (λ x. Before x b) e h)

pub apart : (s : List Entry) (c : ℕ) → Sound s c → (i j : ℕ) → i < j → j < c → (at s i).key ≡ (at s j).key → ⊥
apart s c h i j l w e = before_apart _ _ (h.rising i j l w) e

-- no two places have one key
pub one_place : (s : List Entry) (c : ℕ) → Sound s c → (i j : ℕ) → i < c → j < c → (at s i).key ≡ (at s j).key → i ≡ j
one_place s c h i j p q e =
    ⊎_elim (λ x. x) (⊎_elim (λ x. absurd (apart s c h i j x q e)) (λ x. absurd (apart s c h j i x p (sym e)))) (cases_order i j)

-- ---- the search

pub read_key : (s : List Entry) (c i : ℕ) (d : Entry) → Sound s c → i < c → (at s i).key ≡ (get_or s i d).key
read_key s c i d h l =
    let w : i < length s = omega (arith, room_within s, h.fits) in
    ap (λ (e : Entry). e.key) (get_or_default s i _ d w)

pub lower : (s : List Entry) (c i : ℕ) (k : Key) (d : Entry) → Sound s c → i < c → Less ≡ rank (get_or s i d).key k → (m : ℕ) → m < i + 1 → Before (at s m).key k
lower s c i k d h l e m w =
    let here : Before (at s i).key k = ap is_lt (ap (λ x. rank x k) (read_key s c i d h l) ∙ sym e) in
    ⊎_elim
    (λ q. subst (λ n. Before (at s n).key k) (sym q) here)
    (λ n. strict.onward (at s m).key (at s i).key k (h.rising m i (omega arith) l) here)
    (cases_eq m i)

pub upper : (s : List Entry) (c i : ℕ) (k : Key) (d : Entry) → Sound s c → i < c → Greater ≡ rank (get_or s i d).key k → (m : ℕ) → i ≤ m → m < c → Before k (at s m).key
upper s c i k d h l e m g w =
    let here : Before k (at s i).key = strict.greater_is_after (at s i).key k (ap (λ x. rank x k) (read_key s c i d h l) ∙ sym e) in
    ⊎_elim
    (λ q. subst (λ n. Before k (at s n).key) (sym q) here)
    (λ n. strict.onward k (at s i).key (at s m).key here (h.rising i m (omega arith) w))
    (cases_eq m i)

pub hit : (s : List Entry) (c i : ℕ) (k : Key) (d : Entry) → Sound s c → i < c → Equal ≡ rank (get_or s i d).key k → (at s i).key ≡ k
hit s c i k d h l e = strict.equal_is_same (at s i).key k (ap (λ x. rank x k) (read_key s c i d h l) ∙ sym e)

-- ---- look-ups

pub look_none : (s : List Entry) (k : Key) (c : ℕ) → ((m : ℕ) → m < c → (at s m).key ≡ k → ⊥) → look k (pairs_of s c) ≡ None
look_none s k zero h = refl
look_none s k (suc c) h =
    ⊎_elim
    (λ e. absurd (h c (omega arith) (sym (key_eq _ _ e))))
    (λ e. cond-false _ _ _ e ∙ look_none s k c (λ m l. h m (omega arith)))
    (cases_Bool (alike k (at s c).key))

look_at : (s : List Entry) (k : Key) (c i : ℕ) → ((i j : ℕ) → i < j → j < c → (at s i).key ≡ (at s j).key → ⊥) → i < c → (at s i).key ≡ k
    → look k (pairs_of s c) ≡ Some (at s i).life
look_at s k zero i far l e = absurd (omega arith)
look_at s k (suc c) i far l e =
    ⊎_elim
    (λ q. cond-true _ _ _ (ap (alike k) (ap (λ n. (at s n).key) (sym q) ∙ e) ∙ key_same k) ∙ ap (λ n. Some (at s n).life) (sym q))
    (λ q.
    let less : i < c = omega arith in
    ⊎_elim
    (λ t. absurd (far i c less (omega arith) (e ∙ key_eq _ _ t)))
    (λ t. cond-false _ _ _ t ∙ look_at s k c i (λ x y o r. far x y o (omega arith)) less e)
    (cases_Bool (alike k (at s c).key)))
    (cases_eq i c)

pub look_some : (s : List Entry) (k : Key) (c i : ℕ) → Sound s c → i < c → (at s i).key ≡ k → look k (pairs_of s c) ≡ Some (at s i).life
look_some s k c i h l e = look_at s k c i (apart s c h) l e

found : (s : List Entry) (k : Key) (c : ℕ) → ((i : ℕ) × (i < c) × ((at s i).key ≡ k)) ⊎ ((m : ℕ) → m < c → (at s m).key ≡ k → ⊥)
found s k zero = inr (λ m l e. omega arith)
found s k (suc c) =
    ⊎_elim
    (λ e. inl (c, omega arith, sym (key_eq _ _ e)))
    (λ n. ⊎_elim
    (λ f. inl (f.0, omega (arith, f.1), f.2))
    (λ none. inr (λ m l e. ⊎_elim
    (λ q. true≢false (sym (ap (alike k) (ap (λ n. (at s n).key) (sym q) ∙ e) ∙ key_same k) ∙ n))
    (λ q. none m (omega arith) e)
    (cases_eq m c)))
    (found s k c))
    (cases_Bool (alike k (at s c).key))

pub pairs_length : (s : List Entry) (c : ℕ) → length (pairs_of s c) ≡ c
pairs_length s zero = refl
pairs_length s (suc c) = ap suc (pairs_length s c)

pairs_unique : (s : List Entry) (c : ℕ) → ((i j : ℕ) → i < j → j < c → (at s i).key ≡ (at s j).key → ⊥) → Unique (pairs_of s c)
pairs_unique s zero far = refl
pairs_unique s (suc c) far =
    unique_from ((at s c).key, (at s c).life) (pairs_of s c) (look_none s _ c (λ m l. far m c l (omega arith))) (pairs_unique s c (λ i j l h. far i j l (omega arith)))

-- what the ghost field of a table says
pub sound_unique : (s : List Entry) (c : ℕ) → Sound s c → Unique (pairs_of s c)
sound_unique s c h = pairs_unique s c (apart s c h)

pub sound_fits : (s : List Entry) (c : ℕ) → Sound s c → length (pairs_of s c) ≤ room_of s
sound_fits s c h = subst (λ n. n ≤ room_of s) (sym (pairs_length s c)) h.fits

pub held : {s : List Entry} {c : ℕ} → Sound s c → Held s c
held {s} {c} h = record { in_order = ∣ h ∣₁; apart = sound_unique s c h; within = sound_fits s c h }

-- no entry in use is in order
pub none_sound : (s : List Entry) → Sound s 0
none_sound s = record { fits = omega arith; rising = λ i j l h. absurd (omega arith) }

-- ---- what a change at one key leaves

module _ (s : List Entry) (c : ℕ) (t : List Entry) (d : ℕ) (k : Key) (old : Sound s c) (new : Sound t d)
    (go : (m : ℕ) → m < c → ((at s m).key ≡ k → ⊥) → (n : ℕ) × (n < d) × (at t n ≡ at s m))
    (back : (n : ℕ) → n < d → ((at t n).key ≡ k → ⊥) → (m : ℕ) × (m < c) × (at t n ≡ at s m)) where
  elsewhere : (q : Key) → (q ≡ k → ⊥) → look q (pairs_of t d) ≡ look q (pairs_of s c)
  elsewhere q n =
      ⊎_elim
      (λ f.
      let g = go f.0 f.1 (λ e. n (sym f.2 ∙ e)) in
      look_some t q d g.0 new g.1 (ap (λ (e : Entry). e.key) g.2 ∙ f.2)
      ∙ ap (λ (e : Entry). Some e.life) g.2 ∙ sym (look_some s q c f.0 old f.1 f.2))
      (λ none.
      look_none t q d (λ m l e.
      let b = back m l (λ f. n (sym e ∙ f)) in
      none b.0 b.1 (sym (ap (λ (e : Entry). e.key) b.2) ∙ e))
      ∙ sym (look_none s q c none))
      (found s q c)

  becomes : (o : Option Life) → look k (pairs_of t d) ≡ o → (q : Key) → look q (pairs_of t d) ≡ cond (alike q k) o (look q (pairs_of s c))
  becomes o h q =
      ⊎_elim
      (λ e. ap (λ x. look x (pairs_of t d)) (key_eq q k e) ∙ h ∙ sym (cond-true _ _ _ e))
      (λ e. elsewhere q (λ f. true≢false (sym (ap (λ x. alike x k) f ∙ key_same k) ∙ e)) ∙ sym (cond-false _ _ _ e))
      (cases_Bool (alike q k))

  pub puts_in : (l : Life) → look k (pairs_of t d) ≡ Some l → Same (pairs_of t d) ((k, l) ∷ erase k (pairs_of s c))
  puts_in l h q = becomes (Some l) h q ∙ sym (look_put q k l (pairs_of s c))

  pub takes_out : look k (pairs_of t d) ≡ None → Same (pairs_of t d) (erase k (pairs_of s c))
  takes_out h q = becomes None h q ∙ sym (look_erase q k (pairs_of s c))
