-- What the table's invariant gives.
use Rattle.std.proofs.Common.{◌≡◌, ℕ, zero, suc, ◌+◌, ◌<◌, ◌≤◌, false, List, length, Some, sym, ap, ◌∙◌, subst, ⊎_elim, arith}
use Rattle.std.proofs.lemmas.Bool.{cases_order, cases_eq, both_ways, cases_Bool}
use Rattle.life.specs.declared.key.Key.{Key}
use Rattle.chained.specs.declared.slot.Slot.{Slot}
use Rattle.life.specs.Keys.{alike as same}
use Rattle.life.specs.Pairs.{look as lookup}
use Rattle.chained.proofs.Facts.{same_true, same_self}
use Rattle.chained.specs.Table.{at, chain_of, chain_at, pairs_of, Prev, Sound}

-- where the walk begins: past the head of its chain, the key is not found
pub start : (s : List Slot) (c : ℕ) (k : Key) (b j : ℕ) → j ≡ (at s b).head → Sound s c → b ≡ chain_of k (length s) → 0 < b → b < length s
    → (j ≤ c) × (0 < j → chain_at s j ≡ chain_of k (length s)) × ((m : ℕ) → j < m → m ≤ c → (at s m).key ≡ k → ⊥)
start s c k b j e sound is low high =
    let p : Prev (chain_at s) b (c + 1) (at s b).head = sound.linked.heads b low high in (
      omega (arith, p.below),
      (λ h. ap (chain_at s) e ∙ p.hit (omega arith) ∙ is),
      λ m l h q. p.gap m (omega arith) (omega arith) (ap (λ x. chain_of x (length s)) q ∙ sym is),
    )

-- a step of the walk: what was not found past j is not found past the next of j
pub step : (s : List Slot) (c : ℕ) (k : Key) (j : ℕ) → Sound s c → 0 < j → j ≤ c → chain_at s j ≡ chain_of k (length s)
    → same (at s j).key k ≡ false → ((m : ℕ) → j < m → m ≤ c → (at s m).key ≡ k → ⊥)
    → ((at s j).next ≤ c) × (0 < (at s j).next → chain_at s (at s j).next ≡ chain_of k (length s))
    × ((m : ℕ) → (at s j).next < m → m ≤ c → (at s m).key ≡ k → ⊥)
step s c k j sound some within here other past =
    let p : Prev (chain_at s) (chain_at s j) j (at s j).next = sound.linked.nexts j some within (omega arith) in (
      omega (arith, p.below),
      (λ h. p.hit h ∙ here),
      λ m l h e.
          ⊎_elim
          (λ q. both_ways _ other (same_self _ _ (ap (λ n. (at s n).key) (sym q) ∙ e)))
          (⊎_elim
          (λ q. p.gap m l q (ap (λ x. chain_of x (length s)) e ∙ sym here))
          (λ q. past m q h e))
          (cases_order m j),
    )

-- the same of the value that was read there
pub step_to : (s : List Slot) (c : ℕ) (k : Key) (j n : ℕ) → n ≡ (at s j).next → Sound s c → 0 < j → j ≤ c → chain_at s j ≡ chain_of k (length s)
    → same (at s j).key k ≡ false → ((m : ℕ) → j < m → m ≤ c → (at s m).key ≡ k → ⊥)
    → (n ≤ c) × (0 < n → chain_at s n ≡ chain_of k (length s)) × ((m : ℕ) → n < m → m ≤ c → (at s m).key ≡ k → ⊥)
step_to s c k j n e sound some within here other past =
    subst (λ x. (x ≤ c) × (0 < x → chain_at s x ≡ chain_of k (length s)) × ((m : ℕ) → x < m → m ≤ c → (at s m).key ≡ k → ⊥)) (sym e)
    (step s c k j sound some within here other past)

pub lookup_some : (s : List Slot) (k : Key) (c i : ℕ) → ((i j : ℕ) → 0 < i → i < j → j ≤ c → (at s i).key ≡ (at s j).key → ⊥)
    → 0 < i → i ≤ c → (at s i).key ≡ k → lookup k (pairs_of s c) ≡ Some (at s i).life
lookup_some s k zero i apart some within e = absurd (omega arith)
lookup_some s k (suc c) i apart some within e =
    ⊎_elim
    (λ q. rw (same_self k (at s (suc c)).key (sym e ∙ ap (λ n. (at s n).key) q)) (ap (λ n. Some (at s n).life) (sym q)))
    (λ q.
    let l : i < suc c = omega arith in
    ⊎_elim
    (λ t. absurd (apart i (suc c) some l (omega arith) (e ∙ same_true _ _ t)))
    (λ t. rw t (lookup_some s k c i (λ x y p o r. apart x y p o (omega arith)) some (omega arith) e))
    (cases_Bool (same k (at s (suc c)).key)))
    (cases_eq i (suc c))
