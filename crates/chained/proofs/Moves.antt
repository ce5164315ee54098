-- What is left when a slot is taken out and the last one moves to its place.
use Rattle.std.proofs.Common.{◌≡◌, ℕ, zero, suc, ◌-◌, ◌<◌, ◌≤◌, cond, ◌⊎◌, List, length, Some, None, Option, sym, refl, ap, ◌∙◌, inl, inr, ⊎_elim, arith}
use Rattle.std.proofs.lemmas.Bool.{cases_order, cases_eq, both_ways, cases_Bool}
use Rattle.life.specs.declared.key.Key.{Key}
use Rattle.life.specs.declared.life.Life.{Life}
use Rattle.chained.specs.declared.slot.Slot.{Slot}
use Rattle.life.specs.Keys.{alike as same}
use Rattle.life.specs.Pairs.{look as lookup}
use Rattle.life.proofs.Lookups.{look_erase}
use Rattle.chained.specs.Table.{at, chain_of, chain_at, pairs_of, re, Linked, Sound, Paired, Kept, Spare, TakenFrom}
use Rattle.chained.proofs.Facts.{same_true, same_self, lookup_none, held, whole, room_to, room_small}
use Rattle.chained.proofs.Chains.{lookup_some}
use Rattle.chained.proofs.Links.{prev_to, chain_same, re_same, re_else}

-- ys has o at the key k, and at each other key what xs has
abbrev pub Becomes : List (Key × Life) → List (Key × Life) → Key → Option Life → Type 0
Becomes xs ys k o = (q : Key) → lookup q ys ≡ cond (same q k) o (lookup q xs)

-- the last slot is in no chain
pub shrink : {K L : ℕ → ℕ} {t : List Slot} {c : ℕ} → Linked K t c → 0 < c → K c ≡ 0 → ((m : ℕ) → m < c → L m ≡ K m) → Linked L t (c - 1)
shrink {K} {L} {t} {c} k some none same-below = record {
  nexts = λ j z h q.
      let e = same-below j (omega arith) in
      prev_to (k.nexts j z (omega arith) (omega arith)) e refl (λ m w. same-below m (omega arith));
  heads = λ d z h.
      let p = k.heads d z h in
      let n : (at t d).head ≡ c → ⊥ = λ e. omega (arith, p.hit (omega arith), ap K e) in
      let l : (at t d).head < c = omega (arith, p.below) in
      record {
        below = omega arith;
        hit = λ w. same-below _ l ∙ p.hit w;
        gap = λ m w y q. p.gap m w (omega arith) (sym (same-below m (omega arith)) ∙ q);
      };
}

-- links, and not pairs, are what chains are made of
pub linked_to : {K : ℕ → ℕ} {s t : List Slot} {c : ℕ} → Linked K s c → length t ≡ length s → ((m : ℕ) → (at t m).head ≡ (at s m).head) → ((m : ℕ) → (at t m).next ≡ (at s m).next) → Linked K t c
linked_to k e hs ns = record {
  nexts = λ j z h q. prev_to (k.nexts j z h q) refl (ns j) (λ m _. refl);
  heads = λ d z h. prev_to (k.heads d z (omega (arith, e))) refl (hs d) (λ m _. refl);
}

where_is : (s : List Slot) (q : Key) (c : ℕ) → ((j : ℕ) × (0 < j) × (j ≤ c) × ((at s j).key ≡ q)) ⊎ ((m : ℕ) → 0 < m → m ≤ c → (at s m).key ≡ q → ⊥)
where_is s q zero = inr (λ m z h e. omega arith)
where_is s q (suc c) =
    ⊎_elim
    (λ t. inl (suc c, omega arith, omega arith, sym (same_true _ _ t)))
    (λ f. ⊎_elim
    (λ w. let h = w.2 in inl (w.0, w.1, omega arith, w.3))
    (λ w. inr (λ m z h e.
    ⊎_elim
    (λ y. both_ways _ f (same_self _ _ (sym e ∙ ap (λ n. (at s n).key) y)))
    (λ y. w m z (omega arith) e)
    (cases_eq m (suc c))))
    (where_is s q c))
    (cases_Bool (same q (at s (suc c)).key))

-- the pairs of t are those of s without the one at i
pub record Moved (s t : List Slot) (c i : ℕ) : Type 0 where
  pub key_else : (m : ℕ) → m < c → (m ≡ i → ⊥) → (at t m).key ≡ (at s m).key
  pub life_else : (m : ℕ) → m < c → (m ≡ i → ⊥) → (at t m).life ≡ (at s m).life
  pub key_at : i < c → (at t i).key ≡ (at s c).key
  pub life_at : i < c → (at t i).life ≡ (at s c).life

module _ (s t : List Slot) (c i : ℕ) (moved : Moved s t c i) (some : 0 < i) (within : i ≤ c)
    (apart : (x y : ℕ) → 0 < x → x < y → y ≤ c → (at s x).key ≡ (at s y).key → ⊥) where
  -- a key of t is one of s, and not the one at i
  from : (m : ℕ) → 0 < m → m < c → ((j : ℕ) × (0 < j) × (j ≤ c) × (j ≡ i → ⊥) × ((at t m).key ≡ (at s j).key))
  from m z h =
      ⊎_elim
      (λ e. (c, omega arith, omega arith, (λ q. omega arith), ap (λ n. (at t n).key) e ∙ moved.key_at (omega arith)))
      (λ n. (m, z, omega arith, n, moved.key_else m h n))
      (cases_eq m i)

  apart_any : (x y : ℕ) → 0 < x → x ≤ c → 0 < y → y ≤ c → (x ≡ y → ⊥) → (at s x).key ≡ (at s y).key → ⊥
  apart_any x y p q v w n e =
      ⊎_elim n (⊎_elim (λ l. apart x y p l w e) (λ l. apart y x v l q (sym e))) (cases_order x y)

  pub apart_moved : (x y : ℕ) → 0 < x → x < y → y ≤ c - 1 → (at t x).key ≡ (at t y).key → ⊥
  apart_moved x y p l h e =
      ⊎_elim
      (λ q. apart_any c y (omega arith) (omega arith) (omega arith) (omega arith) (λ o. omega arith) (sym (moved.key_at (omega arith)) ∙ ap (λ n. (at t n).key) (sym q) ∙ e ∙ moved.key_else y (omega arith) (λ o. omega arith)))
      (λ n. ⊎_elim
      (λ q. apart_any x c p (omega arith) (omega arith) (omega arith) (λ o. omega arith) (sym (moved.key_else x (omega arith) n) ∙ e ∙ ap (λ n. (at t n).key) q ∙ moved.key_at (omega arith)))
      (λ o. apart_any x y p (omega arith) (omega arith) (omega arith) (λ o. omega arith) (sym (moved.key_else x (omega arith) n) ∙ e ∙ moved.key_else y (omega arith) o))
      (cases_eq y i))
      (cases_eq x i)

  none_here : lookup (at s i).key (pairs_of t (c - 1)) ≡ None
  none_here = lookup_none t _ (c - 1) (λ m z h e.
      let f = from m z (omega arith) in
      apart_any f.0 i f.1 f.2 some within f.3 (sym f.4 ∙ e))

  else_same : (q : Key) → (q ≡ (at s i).key → ⊥) → lookup q (pairs_of t (c - 1)) ≡ lookup q (pairs_of s c)
  else_same q n =
      ⊎_elim
      (λ w.
      let j = w.0 in
      let zj = w.1 in
      let hj = w.2 in
      let ni : j ≡ i → ⊥ = λ e. n (sym w.3 ∙ ap (λ m. (at s m).key) e) in
      let there = lookup_some s q c j apart zj hj w.3 in
      ⊎_elim
      (λ e.
      let l : i < c = ⊎_elim (λ x. absurd (ni (e ∙ sym x))) (λ x. omega arith) (cases_eq i c) in
      lookup_some t q (c - 1) i apart_moved some (omega arith) (moved.key_at l ∙ ap (λ m. (at s m).key) (sym e) ∙ w.3)
      ∙ ap (λ x. Some x) (moved.life_at l ∙ ap (λ m. (at s m).life) (sym e)) ∙ sym there)
      (λ o.
      let l : j < c = omega arith in
      lookup_some t q (c - 1) j apart_moved zj (omega arith) (moved.key_else j l ni ∙ w.3)
      ∙ ap (λ x. Some x) (moved.life_else j l ni) ∙ sym there)
      (cases_eq j c))
      (λ w.
      lookup_none t q (c - 1) (λ m z h e. let f = from m z (omega arith) in w f.0 f.1 f.2 (sym f.4 ∙ e))
      ∙ sym (lookup_none s q c w))
      (where_is s q c)

  pub becomes : Becomes (pairs_of s c) (pairs_of t (c - 1)) (at s i).key None
  becomes q =
      ⊎_elim
      (λ e. rw e (ap (λ x. lookup x (pairs_of t (c - 1))) (same_true _ _ e) ∙ none_here))
      (λ e. rw e (else_same q (λ f. both_ways _ e (same_self _ _ f))))
      (cases_Bool (same q (at s i).key))

-- the last slot is taken out
module _ (s t : List Slot) (c i : ℕ) (old : Sound s c) (some : 0 < i) (last : i ≡ c) (kept : Kept s t) (k : Linked (re (chain_at s) i 0) t c) where
  last_moved : Moved s t c i
  last_moved = record { key_else = λ m _ _. kept.keys m; life_else = λ m _ _. kept.lives m; key_at = λ l. absurd (omega arith); life_at = λ l. absurd (omega arith) }

  pub last_sound : Sound t (c - 1)
  last_sound = record {
    fits = omega (arith, kept.size, old.fits);
    small = omega (arith, kept.size, old.small);
    linked = shrink k (omega arith) (re_same (chain_at s) i 0 c (sym last)) (λ m l. chain_same s t m _ kept.size (kept.keys m) ∙ sym (re_else (chain_at s) i 0 m (λ e. omega arith)));
    apart = apart_moved s t c i last_moved some (omega arith) old.apart;
  }

  pub last_becomes : Becomes (pairs_of s c) (pairs_of t (c - 1)) (at s i).key None
  last_becomes = becomes s t c i last_moved some (omega arith) old.apart

-- a slot i before the last one, c, is taken out: i and c leave their chains, c's pair goes to i, and i joins the chain d of c
module _ (s u v : List Slot) (c i d : ℕ) (old : Sound s c) (some : 0 < i) (less : i < c)
    (one : Kept s u) (is : d ≡ chain_of (at u c).key (length s))
    (k1 : Linked (re (chain_at s) i 0) u c)
    (two : Kept u v) (more : (K : ℕ → ℕ) → Linked K u c → K c ≡ d → Linked (re K c 0) v c) where
  chain_last : chain_at s c ≡ d
  chain_last = ap (λ k. chain_of k (length s)) (sym (one.keys c)) ∙ sym is

  k2 : Linked (re (re (chain_at s) i 0) c 0) v c
  k2 = more (re (chain_at s) i 0) k1 (re_else (chain_at s) i 0 c (λ e. omega arith) ∙ chain_last)

  module _ (w : List Slot) (three : Paired v w i (at u c).key (at u c).life) where
    pub k3 : Linked (re (re (chain_at s) i 0) c 0) w c
    k3 = linked_to k2 three.size three.heads three.nexts

    module _ (t : List Slot) (four : Kept w t) (last : (K : ℕ → ℕ) → Linked K w c → K i ≡ 0 → Linked (re K i d) t c) where
      size : length t ≡ length s
      size = four.size ∙ three.size ∙ two.size ∙ one.size

      moved : Moved s t c i
      moved = record {
        key_else = λ m l n. four.keys m ∙ three.key_else m n ∙ two.keys m ∙ one.keys m;
        life_else = λ m l n. four.lives m ∙ three.life_else m n ∙ two.lives m ∙ one.lives m;
        key_at = λ _. four.keys i ∙ three.key_at ∙ one.keys c;
        life_at = λ _. four.lives i ∙ three.life_at ∙ one.lives c;
      }

      k4 : Linked (re (re (re (chain_at s) i 0) c 0) i d) t c
      k4 = last _ k3 (re_else (re (chain_at s) i 0) c 0 i (λ e. omega arith) ∙ re_same (chain_at s) i 0 i refl)

      chains : (m : ℕ) → m < c → chain_at t m ≡ re (re (re (chain_at s) i 0) c 0) i d m
      chains m l =
          ⊎_elim
          (λ e. chain_same s t m (at s c).key size (ap (λ n. (at t n).key) e ∙ moved.key_at less) ∙ chain_last ∙ sym (re_same (re (re (chain_at s) i 0) c 0) i d m e))
          (λ n. chain_same s t m (at s m).key size (moved.key_else m l n)
          ∙ sym (re_else (re (re (chain_at s) i 0) c 0) i d m n ∙ re_else (re (chain_at s) i 0) c 0 m (λ e. omega arith) ∙ re_else (chain_at s) i 0 m n))
          (cases_eq m i)

      pub taken_sound : Sound t (c - 1)
      taken_sound = record {
        fits = omega (arith, size, old.fits);
        small = omega (arith, size, old.small);
        linked = shrink k4 (omega arith) (re_else (re (re (chain_at s) i 0) c 0) i d c (λ e. omega arith) ∙ re_same (re (chain_at s) i 0) c 0 c refl) chains;
        apart = apart_moved s t c i moved some (omega arith) old.apart;
      }

      pub taken_becomes : Becomes (pairs_of s c) (pairs_of t (c - 1)) (at s i).key None
      taken_becomes = becomes s t c i moved some (omega arith) old.apart

-- what is promised of a table from which a slot was taken
pub drops : (s t : List Slot) (c i : ℕ) → Sound s c → 0 < i → i ≤ c → length t ≡ length s → Spare s t (c - 1) → Sound t (c - 1)
    → Becomes (pairs_of s c) (pairs_of t (c - 1)) (at s i).key None → TakenFrom s c t (c - 1) (at s i).key
drops s t c i old some within size spare new gone = record {
  held = held (whole _ _ new);
  room = room_to _ _ size;
  holds = λ q. gone q ∙ sym (look_erase q _ _);
  leaves = record {
    size = size;
    spare = spare;
    unwritten = λ z. absurd (omega (arith, z, room_small s old.small, old.fits));
  };
}

-- a life is replaced
module _ (s t : List Slot) (c i : ℕ) (k : Key) (l : Life) (old : Sound s c) (some : 0 < i) (within : i ≤ c) (held : (at s i).key ≡ k) (one : Paired s t i k l) where
  keys : (m : ℕ) → (at t m).key ≡ (at s m).key
  keys m =
      ⊎_elim
      (λ e. ap (λ n. (at t n).key) e ∙ one.key_at ∙ sym held ∙ ap (λ n. (at s n).key) (sym e))
      (λ n. one.key_else m n)
      (cases_eq m i)

  pub held_sound : Sound t c
  held_sound = record {
    fits = omega (arith, one.size, old.fits);
    small = omega (arith, one.size, old.small);
    linked = record {
      nexts = λ j z h q. prev_to (old.linked.nexts j z h (omega arith)) (chains j) (one.nexts j) (λ m _. chains m);
      heads = λ d z h. prev_to (old.linked.heads d z (omega (arith, one.size))) refl (one.heads d) (λ m _. chains m);
    };
    apart = λ x y p q r e. old.apart x y p q r (sym (keys x) ∙ e ∙ keys y);
  }
    where
      chains : (m : ℕ) → chain_at t m ≡ chain_at s m
      chains m = chain_same s t m _ one.size (keys m)

  pub held_becomes : Becomes (pairs_of s c) (pairs_of t c) k (Some l)
  held_becomes q =
      ⊎_elim
      (λ e. rw e (lookup_some t q c i held_sound.apart some within (one.key_at ∙ sym (same_true _ _ e)) ∙ ap (λ x. Some x) one.life_at))
      (λ e. rw e (⊎_elim
      (λ w.
      let n : w.0 ≡ i → ⊥ = λ f. both_ways _ e (same_self _ _ (sym w.3 ∙ ap (λ m. (at s m).key) f ∙ held)) in
      lookup_some t q c w.0 held_sound.apart w.1 w.2 (keys w.0 ∙ w.3)
      ∙ ap (λ x. Some x) (one.life_else w.0 n) ∙ sym (lookup_some s q c w.0 old.apart w.1 w.2 w.3))
      (λ w. lookup_none t q c (λ m z h f. w m z h (sym (keys m) ∙ f)) ∙ sym (lookup_none s q c w))
      (where_is s q c)))
      (cases_Bool (same q k))
