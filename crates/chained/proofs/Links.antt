-- What a change of a link does to the chains.
use Rattle.std.proofs.Common.{◌≡◌, ℕ, zero, suc, ◌+◌, ◌<◌, ◌≤◌, List, ◌∷◌, length, sym, refl, ap, ◌∙◌, subst, ⊎_elim, add-one, arith}
use Rattle.std.proofs.lemmas.Bool.{cases_order, cases_eq, eq-eqb, ne_eqb}
use Rattle.life.specs.declared.key.Key.{Key}
use Rattle.life.specs.declared.life.Life.{Life}
use Rattle.chained.specs.declared.slot.Slot.{Slot}
use Rattle.chained.specs.Table.{at, chain_of, chain_at, pairs_of, re, Prev, Linked, HasChain, InUse, Sound, Place, Rewired, Paired}

-- the same link under chains that agree below it
pub prev_to : {K L : ℕ → ℕ} {b d top r t : ℕ} → Prev K b top r → d ≡ b → t ≡ r → ((m : ℕ) → m < top → L m ≡ K m) → Prev L d top t
prev_to {K} {L} p e f same = record {
  below = omega (arith, p.below);
  hit = λ h. ap L f ∙ same _ p.below ∙ p.hit (omega arith) ∙ sym e;
  gap = λ m l h q. p.gap m (omega arith) h (sym (same m h) ∙ q ∙ e);
}

pub pairs_same : (s t : List Slot) (c : ℕ) → ((m : ℕ) → 0 < m → m ≤ c → (at t m).key ≡ (at s m).key) → ((m : ℕ) → 0 < m → m ≤ c → (at t m).life ≡ (at s m).life)
    → pairs_of t c ≡ pairs_of s c
pairs_same s t zero ks ls = refl
pairs_same s t (suc c) ks ls =
    let k = ks (suc c) (omega arith) (omega arith) in
    let l = ls (suc c) (omega arith) (omega arith) in
    let rest = pairs_same s t c (λ m p q. ks m p (omega arith)) (λ m p q. ls m p (omega arith)) in
    λ i. (k i, l i) ∷ rest i

pub chain_same : (s t : List Slot) (m : ℕ) (k : Key) → length t ≡ length s → (at t m).key ≡ k → chain_at t m ≡ chain_of k (length s)
chain_same s t m k e f = λ i. chain_of (f i) (e i)

-- the same write of a value that has another name
pub rewired_to : {s t : List Slot} {b p v w : ℕ} → Rewired s t b p v → v ≡ w → Rewired s t b p w
rewired_to {s} {t} {b} {p} h e = subst (λ x. Rewired s t b p x) e h

pub paired_to : {s t : List Slot} {i : ℕ} {k q : Key} {l m : Life} → Paired s t i k l → k ≡ q → l ≡ m → Paired s t i q m
paired_to {s} {t} {i} {k} {q} {l} h e f = subst (λ x. Paired s t i q x) f (subst (λ x. Paired s t i x l) e h)

-- one slot more, at the head of its chain
module _ (s u v t : List Slot) (c : ℕ) (k : Key) (l : Life) (b : ℕ)
    (old : Sound s c) (room : c + 1 < length s) (fresh : (m : ℕ) → 0 < m → m ≤ c → (at s m).key ≡ k → ⊥)
    (is : b ≡ chain_of k (length s)) (low : 0 < b) (high : b < length s)
    (one : Rewired s u b (c + 1) (at s b).head) (two : Paired u v (c + 1) k l) (three : Rewired v t b 0 (c + 1)) where
  size : length t ≡ length s
  size = three.size ∙ two.size ∙ one.size

  key_here : (at t (c + 1)).key ≡ k
  key_here = three.keys (c + 1) ∙ two.key_at

  key_else : (m : ℕ) → m ≤ c → (at t m).key ≡ (at s m).key
  key_else m h = three.keys m ∙ two.key_else m (λ e. omega arith) ∙ one.keys m

  life_else : (m : ℕ) → m ≤ c → (at t m).life ≡ (at s m).life
  life_else m h = three.lives m ∙ two.life_else m (λ e. omega arith) ∙ one.lives m

  next_here : (at t (c + 1)).next ≡ (at s b).head
  next_here = three.next_else (c + 1) (omega arith) (λ e. omega arith) ∙ two.nexts (c + 1) ∙ one.next_at (omega arith)

  next_else : (m : ℕ) → 0 < m → m ≤ c → (at t m).next ≡ (at s m).next
  next_else m p h = three.next_else m p (λ e. omega arith) ∙ two.nexts m ∙ one.next_else m p (λ e. omega arith)

  head_here : (at t b).head ≡ c + 1
  head_here = three.head_at refl

  head_else : (m : ℕ) → (m ≡ b → ⊥) → (at t m).head ≡ (at s m).head
  head_else m n = three.head_else m (λ _ e. n e) ∙ two.heads m ∙ one.head_else m (λ z e. omega arith)

  chain_here : chain_at t (c + 1) ≡ b
  chain_here = chain_same s t (c + 1) k size key_here ∙ sym is

  chain_else : (m : ℕ) → m ≤ c → chain_at t m ≡ chain_at s m
  chain_else m h = chain_same s t m _ size (key_else m h)

  nexts : (j : ℕ) → 0 < j → j ≤ c + 1 → 0 < chain_at t j → Prev (chain_at t) (chain_at t j) j (at t j).next
  nexts j p h q =
      ⊎_elim
      (λ e. subst (λ n. Prev (chain_at t) (chain_at t n) n (at t n).next) (sym e)
      (prev_to (old.linked.heads b low high) chain_here next_here (λ m w. chain_else m (omega arith))))
      (λ n. let w : j ≤ c = omega arith in
      prev_to (old.linked.nexts j p w (omega arith)) (chain_else j w) (next_else j p w) (λ m z. chain_else m (omega arith)))
      (cases_eq j (c + 1))

  heads : (d : ℕ) → 0 < d → d < length t → Prev (chain_at t) d (c + 1 + 1) (at t d).head
  heads d p h =
      ⊎_elim
      (λ e. subst (λ n. Prev (chain_at t) n (c + 1 + 1) (at t n).head) (sym e)
      (record { below = omega (arith, head_here); hit = λ _. ap (chain_at t) head_here ∙ chain_here; gap = λ m w z _. omega (arith, head_here) }))
      (λ n.
      let r = old.linked.heads d p (omega (arith, size)) in
      let same = head_else d n in
      record {
        below = omega (arith, same, r.below);
        hit = λ z. ap (chain_at t) same ∙ chain_else _ (omega (arith, r.below)) ∙ r.hit (omega (arith, same));
        gap = λ m w z q.
            ⊎_elim
            (λ e. n (sym q ∙ ap (chain_at t) e ∙ chain_here))
            (λ y. r.gap m (omega (arith, same)) (omega arith) (sym (chain_else m (omega arith)) ∙ q))
            (cases_eq m (c + 1));
      })
      (cases_eq d b)

  apart : (i j : ℕ) → 0 < i → i < j → j ≤ c + 1 → (at t i).key ≡ (at t j).key → ⊥
  apart i j p h w e =
      ⊎_elim
      (λ q. fresh i p (omega arith) (sym (key_else i (omega arith)) ∙ e ∙ ap (λ n. (at t n).key) q ∙ key_here))
      (λ n. old.apart i j p h (omega arith) (sym (key_else i (omega arith)) ∙ e ∙ key_else j (omega arith)))
      (cases_eq j (c + 1))

  pub added : Sound t (c + 1)
  added = record {
    fits = omega (arith, size);
    small = omega (arith, size, old.small);
    linked = record { nexts = nexts; heads = heads };
    apart = apart;
  }

  pub added_pairs : pairs_of t (c + 1) ≡ (k, l) ∷ pairs_of s c
  added_pairs =
      let lh : (at t (c + 1)).life ≡ l = three.lives (c + 1) ∙ two.life_at in
      let rest = pairs_same s t c (λ m p q. key_else m q) (λ m p q. life_else m q) in
      let front : (n : ℕ) → n ≡ suc c → pairs_of t n ≡ ((at t n).key, (at t n).life) ∷ pairs_of t c = λ n e. subst (λ x. pairs_of t x ≡ ((at t x).key, (at t x).life) ∷ pairs_of t c) (sym e) refl in
      front (c + 1) (add-one c) ∙ (λ i. (key_here i, lh i) ∷ rest i)

pub re_same : (K : ℕ → ℕ) (i v m : ℕ) → m ≡ i → re K i v m ≡ v
re_same K i v m e = rw (eq-eqb m i e)

pub re_else : (K : ℕ → ℕ) (i v m : ℕ) → (m ≡ i → ⊥) → re K i v m ≡ K m
re_else K i v m n = rw (ne_eqb m i n)

-- where the link that passes over i stands
module _ {K : ℕ → ℕ} {s : List Slot} {c b i p : ℕ} (k : Linked K s c) (at_p : Place s c b i p)
    (chain : HasChain s c b) (slot : InUse s c i) where
  -- only the link at p passes over i
  only : (j : ℕ) → j ≤ c → i < j → K j ≡ b → (at s j).next ≤ i → j ≡ p
  only j h l e n =
      ⊎_elim
      (λ q. q)
      (⊎_elim
      (λ q. absurd ((k.nexts p (omega arith) at_p.within (omega (arith, at_p.chained K k (omega arith)))).gap j (omega (arith, at_p.later (omega arith))) q (e ∙ sym (at_p.chained K k (omega arith)))))
      (λ q. ⊎_elim
      (λ z. absurd ((k.heads b chain.low chain.high).gap j (omega (arith, at_p.first z)) (omega arith) e))
      (λ z. absurd ((k.nexts j (omega arith) h (omega arith)).gap p (omega (arith, at_p.above (omega arith))) q (at_p.chained K k (omega arith) ∙ sym e)))
      (cases_eq p 0)))
      (cases_order j p)

  only_head : (at s b).head ≤ i → p ≡ 0
  only_head n =
      ⊎_elim
      (λ z. z)
      (λ z. absurd ((k.heads b chain.low chain.high).gap p (omega (arith, at_p.above (omega arith))) (omega (arith, at_p.within)) (at_p.chained K k (omega arith))))
      (cases_eq p 0)

  -- nothing of the chain b stands between i and the link
  clear_next : 0 < p → (m : ℕ) → i < m → m < p → K m ≡ b → ⊥
  clear_next z m l h e =
      (k.nexts p z at_p.within (omega (arith, at_p.chained K k z))).gap m (omega (arith, at_p.later z)) h (e ∙ sym (at_p.chained K k z))

  clear_head : p ≡ 0 → (m : ℕ) → i < m → m < c + 1 → K m ≡ b → ⊥
  clear_head z m l h e = (k.heads b chain.low chain.high).gap m (omega (arith, at_p.first z)) h e

-- i leaves its chain
module _ {K : ℕ → ℕ} {i : ℕ} where
  -- the link that passed over i
  skip : {b top r : ℕ} → Prev K b i r → 0 < b → i < top → ((m : ℕ) → i < m → m < top → K m ≡ b → ⊥) → Prev (re K i 0) b top r
  skip p low l clear = record {
    below = omega (arith, p.below);
    hit = λ h. re_else K i 0 _ (λ e. omega (arith, p.below)) ∙ p.hit h;
    gap = λ m w z q.
        ⊎_elim
        (λ e. omega (arith, re_same K i 0 m e, q))
        (⊎_elim
        (λ y. p.gap m w y (sym (re_else K i 0 m (λ e. omega arith)) ∙ q))
        (λ y. clear m y z (sym (re_else K i 0 m (λ e. omega arith)) ∙ q)))
        (cases_order m i);
  }

  -- any other link
  stay : {b top r : ℕ} → Prev K b top r → 0 < b → (r ≡ i → ⊥) → Prev (re K i 0) b top r
  stay p low n = record {
    below = p.below;
    hit = λ h. re_else K i 0 _ n ∙ p.hit h;
    gap = λ m w z q.
        ⊎_elim
        (λ e. omega (arith, re_same K i 0 m e, q))
        (λ y. p.gap m w z (sym (re_else K i 0 m y) ∙ q))
        (cases_eq m i);
  }

  -- i joins the chain b: its own link, the link to it, and any other
  own : {b top r : ℕ} → Prev K b top r → r < i → i ≤ top → Prev (re K i b) b i r
  own {b} p l h = record {
    below = l;
    hit = λ z. re_else K i b _ (λ e. omega arith) ∙ p.hit z;
    gap = λ m w z q. p.gap m w (omega arith) (sym (re_else K i b m (λ e. omega arith)) ∙ q);
  }

  join : {b top : ℕ} → i < top → ((m : ℕ) → i < m → m < top → K m ≡ b → ⊥) → Prev (re K i b) b top i
  join {b} l clear = record {
    below = l;
    hit = λ z. re_same K i b i refl;
    gap = λ m w z q. clear m w z (sym (re_else K i b m (λ e. omega arith)) ∙ q);
  }

  pass : {b d top r : ℕ} → Prev K d top r → 0 < d → K i ≡ 0 → (d ≡ b → r < i → i < top → ⊥) → Prev (re K i b) d top r
  pass {b} {d} {top} {r} p low none over = record {
    below = p.below;
    hit = λ z. re_else K i b _ (λ e. omega (arith, p.hit z, ap K e)) ∙ p.hit z;
    gap = λ m w z q.
        ⊎_elim
        (λ e. over (sym q ∙ re_same K i b m e) (omega arith) (omega arith))
        (λ y. p.gap m w z (sym (re_else K i b m y) ∙ q))
        (cases_eq m i);
  }

-- the same link under other names
named : {K : ℕ → ℕ} {b d top r t : ℕ} → Prev K b top r → d ≡ b → t ≡ r → Prev K d top t
named p e f = prev_to p e f (λ m _. refl)

module _ {K : ℕ → ℕ} (s t : List Slot) (c b i p : ℕ) (k : Linked K s c) (at_p : Place s c b i p)
    (chain : HasChain s c b) (slot : InUse s c i) where
  pub unlinked : K i ≡ b → Rewired s t b p (at s i).next → Linked (re K i 0) t c
  unlinked here w = record {
    nexts = λ j z h q.
        let n : j ≡ i → ⊥ = λ e. omega (arith, re_same K i 0 j e) in
        let e = re_else K i 0 j n in
        let kj = k.nexts j z h (omega arith) in
        ⊎_elim
        (λ y.
        let pz : 0 < p = omega arith in
        let kp : K j ≡ b = ap K y ∙ at_p.chained K k pz in
        subst (λ x. Prev (re K i 0) (re K i 0 j) x (at t j).next) (sym y)
        (named (skip (named (k.nexts i slot.some slot.within (omega arith)) (sym here) refl) chain.low (at_p.above pz) (clear_next k at_p chain slot pz))
        (e ∙ kp) (ap (λ x. (at t x).next) y ∙ w.next_at pz)))
        (λ y.
        named (stay kj (omega arith) (λ f. y (only k at_p chain slot j h (omega (arith, kj.below)) (sym (kj.hit (omega arith)) ∙ ap K f ∙ here) (omega arith))))
        e (w.next_else j z y))
        (cases_eq j p);
    heads = λ d z h.
        let dh : d < length s = omega (arith, w.size) in
        let kd = k.heads d z dh in
        ⊎_elim
        (λ y. ⊎_elim
        (λ x. named (skip (named (k.nexts i slot.some slot.within (omega arith)) (sym here) refl) chain.low (omega arith) (clear_head k at_p chain slot x))
        y (ap (λ n. (at t n).head) y ∙ w.head_at x))
        (λ x. named (stay kd z (λ f. x (only_head k at_p chain slot (omega (arith, ap (λ n. (at s n).head) y))))) refl (w.head_else d (λ q _. x q)))
        (cases_eq p 0))
        (λ y. named (stay kd z (λ f. y (sym (kd.hit (omega arith)) ∙ ap K f ∙ here))) refl (w.head_else d (λ _ q. y q)))
        (cases_eq d b);
  }

  pub linked : (u : List Slot) (v : ℕ) → K i ≡ 0 → (p ≡ 0 → v ≡ (at s b).head) → (0 < p → v ≡ (at s p).next)
      → Rewired s u b i v → Rewired u t b p i → Linked (re K i b) t c
  linked u v none v-head v_next w x = record {
    nexts = λ j z h q.
        ⊎_elim
        (λ y.
        subst (λ n. Prev (re K i b) (re K i b n) n (at t n).next) (sym y)
        (named own_link (re_same K i b i refl) (x.next_else i slot.some i≢p ∙ w.next_at slot.some)))
        (λ n.
        let e = re_else K i b j n in
        let kj = k.nexts j z h (omega arith) in
        ⊎_elim
        (λ y.
        let pz : 0 < p = omega arith in
        subst (λ o. Prev (re K i b) (re K i b j) o (at t j).next) (sym y)
        (named (join (at_p.above pz) (clear_next k at_p chain slot pz)) (e ∙ ap K y ∙ at_p.chained K k pz) (ap (λ o. (at t o).next) y ∙ x.next_at pz)))
        (λ y.
        named (pass kj (omega arith) none (λ f l g. y (only k at_p chain slot j h g f (omega arith))))
        e (x.next_else j z y ∙ w.next_else j z n))
        (cases_eq j p))
        (cases_eq j i);
    heads = λ d z h.
        let kd = k.heads d z (omega (arith, w.size, x.size)) in
        ⊎_elim
        (λ y. ⊎_elim
        (λ o. named (join (omega arith) (clear_head k at_p chain slot o)) y (ap (λ n. (at t n).head) y ∙ x.head_at o))
        (λ o. named (pass kd z none (λ _ l _. o (only_head k at_p chain slot (omega (arith, ap (λ n. (at s n).head) y))))) refl
        (x.head_else d (λ q _. o q) ∙ w.head_else d (λ q _. omega arith)))
        (cases_eq p 0))
        (λ y. named (pass kd z none (λ q _ _. y q)) refl (x.head_else d (λ _ q. y q) ∙ w.head_else d (λ _ q. y q)))
        (cases_eq d b);
  }
    where
      i≢p : i ≡ p → ⊥
      i≢p e = omega (arith, at_p.above (omega arith))

      own_link : Prev (re K i b) b i v
      own_link =
          ⊎_elim
          (λ o.
          let l = k.heads b chain.low chain.high in
          let n : (at s b).head ≡ i → ⊥ = λ e. omega (arith, l.hit (omega arith), ap K e) in
          named (own l (omega (arith, at_p.first o)) (omega arith)) refl (v-head o))
          (λ o.
          let pz : 0 < p = omega arith in
          let l = k.nexts p pz at_p.within (omega (arith, at_p.chained K k pz)) in
          let n : (at s p).next ≡ i → ⊥ = λ e. omega (arith, l.hit (omega arith), ap K e, at_p.chained K k pz) in
          named (own (named l (sym (at_p.chained K k pz)) refl) (omega (arith, at_p.later pz)) (omega (arith, at_p.above pz))) refl (v_next pz))
          (cases_eq p 0)
