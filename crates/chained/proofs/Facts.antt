-- What the table's invariant says of the pairs: lemmas for the ghost members of a store.
use Rattle.std.proofs.Common.{◌≡◌, ℕ, zero, suc, ◌-◌, ◌<◌, ◌≤◌, true, Bool, cond, leb, List, [], length, get_or, None, sym, refl, ap, ◌∙◌, subst, ⊎_elim, arith}
use mathlib.Core.Logic.{∥∥₁_elim}
use std.HLevel.{Π_prop, ⊥_prop}
use native.Mathlib.Bridge.{le_prop}
use base.Stored.{Coded-set, coded_ℕ}
use Rattle.std.proofs.lemmas.List.{get_or_default}
use Rattle.std.proofs.lemmas.Bool.{cases_Bool, cases_lt, le-leb, lt-leb, cond-true, cond-false}
use Rattle.life.specs.declared.key.Key.{Key}
use Rattle.chained.specs.declared.slot.Slot.{Slot}
use Rattle.life.specs.Parts.{key_parts}
use Rattle.life.specs.Keys.{alike as same, same_key}
use Rattle.life.specs.Pairs.{look as lookup, Unique}
use Rattle.life.proofs.KeyOrder.{key_eq, key_same}
use Rattle.life.proofs.Lookups.{unique_from}
use Rattle.chained.specs.Table.{none, at, pairs_of, room_of, Prev, Linked, Sound, Sought, Whole, Held, Emptied}

-- the invariant holds in one way, so it comes out of the ghost field
prev_prop : {K : ℕ → ℕ} {b top r : ℕ} → IsProp (Prev K b top r)
prev_prop p q = λ i. record {
  below = le_prop p.below q.below i;
  hit = Π_prop (λ _. Coded-set coded_ℕ _ _) p.hit q.hit i;
  gap = Π_prop (λ _. Π_prop (λ _. Π_prop (λ _. Π_prop (λ _. ⊥_prop)))) p.gap q.gap i;
}

linked_prop : {K : ℕ → ℕ} {s : List Slot} {c : ℕ} → IsProp (Linked K s c)
linked_prop p q = λ i. record {
  nexts = Π_prop (λ _. Π_prop (λ _. Π_prop (λ _. Π_prop (λ _. prev_prop)))) p.nexts q.nexts i;
  heads = Π_prop (λ _. Π_prop (λ _. Π_prop (λ _. prev_prop))) p.heads q.heads i;
}

sound_prop : {s : List Slot} {c : ℕ} → IsProp (Sound s c)
sound_prop p q = λ i. record {
  fits = le_prop p.fits q.fits i;
  small = le_prop p.small q.small i;
  linked = linked_prop p.linked q.linked i;
  apart = Π_prop (λ _. Π_prop (λ _. Π_prop (λ _. Π_prop (λ _. Π_prop (λ _. Π_prop (λ _. ⊥_prop)))))) p.apart q.apart i;
}

whole_prop : {s : List Slot} {c : ℕ} → IsProp (Whole s c)
whole_prop p q = λ i. record {
  allowed = Π_prop (λ _. sound_prop) p.allowed q.allowed i;
  large = Π_prop (λ _. Coded-set coded_ℕ _ _) p.large q.large i;
}

pub opened : {s : List Slot} {c : ℕ} → Held s c → Whole s c
opened h = ∥∥₁_elim h.in_chains whole_prop (λ x. x)

-- what a read gives
pub at_read : (s : List Slot) (i : ℕ) (x : Slot) → i < length s → get_or s i x ≡ at s i
at_read s i x l = get_or_default s i x none l

-- what a comparison tells of a slot
pub told : (s : List Slot) (i : ℕ) (x : Slot) (k : Key) (b : Bool) → x ≡ at s i → b ≡ same_key (key_parts x.key) (key_parts k) → same (at s i).key k ≡ b
unfolding same
told s i x k b r e = ap (λ (y : Slot). same y.key k) (sym r) ∙ sym e

pub same_true : (k q : Key) → same k q ≡ true → k ≡ q
same_true k q e = key_eq k q e

pub same_self : (k q : Key) → k ≡ q → same k q ≡ true
same_self k q e = ap (same k) (sym e) ∙ key_same k

-- what a place tells of the pairs
pub lookup_none : (s : List Slot) (k : Key) (c : ℕ) → ((m : ℕ) → 0 < m → m ≤ c → (at s m).key ≡ k → ⊥) → lookup k (pairs_of s c) ≡ None
lookup_none s k zero h = refl
lookup_none s k (suc c) h =
    ⊎_elim
    (λ e. absurd (h (suc c) (omega arith) (omega arith) (sym (same_true _ _ e))))
    (λ e. rw e (lookup_none s k c (λ m p q. h m p (omega arith))))
    (cases_Bool (same k (at s (suc c)).key))

pub pairs_length : (s : List Slot) (c : ℕ) → length (pairs_of s c) ≡ c
pairs_length s zero = refl
pairs_length s (suc c) = ap suc (pairs_length s c)

pub pairs_unique : (s : List Slot) (c : ℕ) → ((i j : ℕ) → 0 < i → i < j → j ≤ c → (at s i).key ≡ (at s j).key → ⊥) → Unique (pairs_of s c)
pairs_unique s zero apart = refl
pairs_unique s (suc c) apart =
    unique_from ((at s (suc c)).key, (at s (suc c)).life) (pairs_of s c)
    (lookup_none s _ c (λ m z h e. apart m (suc c) z (omega arith) (omega arith) e)) (pairs_unique s c (λ i j z l h. apart i j z l (omega arith)))

-- ---- what the ghost field of a table says

pub whole : (s : List Slot) (c : ℕ) → Sound s c → Whole s c
whole s c h = record { allowed = λ _. h; large = λ l. absurd (omega (arith, h.small)) }

pub large_none : (s : List Slot) (c : ℕ) → Whole s c → 65536 < length s → pairs_of s c ≡ []
large_none s c h l = ap (pairs_of s) (h.large l)

pub room_large : (s : List Slot) → 65536 < length s → room_of s ≡ 0
room_large s l = cond-false _ _ _ (lt-leb (length s) 65536 l)

pub room_small : (s : List Slot) → length s ≤ 65536 → room_of s ≡ length s - 1
room_small s l = cond-true _ _ _ (le-leb (length s) 65536 l)

pub room_to : (s t : List Slot) → length t ≡ length s → room_of t ≡ room_of s
room_to s t e = ap (λ n. cond (leb n 65536) (n - 1) 0) e

pub whole_unique : (s : List Slot) (c : ℕ) → Whole s c → Unique (pairs_of s c)
whole_unique s c h =
    ⊎_elim
    (λ l. subst Unique (sym (large_none s c h l)) refl)
    (λ l. pairs_unique s c (h.allowed l).apart)
    (cases_lt 65536 (length s))

pub whole_fits : (s : List Slot) (c : ℕ) → Whole s c → length (pairs_of s c) ≤ room_of s
whole_fits s c h =
    ⊎_elim
    (λ l. omega (arith, pairs_length s c, h.large l))
    (λ l. omega (arith, pairs_length s c, room_small s l, (h.allowed l).fits))
    (cases_lt 65536 (length s))

-- a table without chains has no slot in use
pub emptied_whole : (s t : List Slot) → Emptied s t → Whole t 0
emptied_whole s t e = record {
  allowed = λ l.
      let w = e.small (omega (arith, e.size)) in
      record {
        fits = omega arith;
        small = l;
        linked = record {
          nexts = λ j z h. absurd (omega arith);
          heads = λ b z h. record {
            below = omega (arith, w.heads b);
            hit = λ p. absurd (omega (arith, w.heads b));
            gap = λ m p q. absurd (omega (arith, w.heads b));
          };
        };
        apart = λ i j z l h. absurd (omega arith);
      };
  large = λ l. refl;
}

pub held : {s : List Slot} {c : ℕ} → Whole s c → Held s c
held {s} {c} h = record { in_chains = ∣ h ∣₁; apart = whole_unique s c h; within = whole_fits s c h }

-- a table with a slot in use has a length that is allowed
pub sound_in : (s : List Slot) (c : ℕ) → Whole s c → 0 < c → Sound s c
sound_in s c h l = ⊎_elim (λ z. absurd (omega (arith, h.large z))) (λ z. h.allowed z) (cases_lt 65536 (length s))

-- and so has one with a slot that is free
pub sound_with : (s : List Slot) (c : ℕ) → Whole s c → c < room_of s → Sound s c
sound_with s c h l = ⊎_elim (λ z. absurd (omega (arith, room_large s z))) (λ z. h.allowed z) (cases_lt 65536 (length s))

-- and so has one in which a key is found
pub sound_at : (s : List Slot) (c : ℕ) (k : Key) (i : ℕ) → Whole s c → (0 < i) × Sought s c k i → Sound s c
sound_at s c k i h f = sound_in s c h (omega (arith, f.0, f.1.within))
