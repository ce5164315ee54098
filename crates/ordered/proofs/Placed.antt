-- The entries in use after a change, as a list.
use Rattle.std.proofs.Common.{◌≡◌, ℕ, zero, suc, ◌+◌, ◌-◌, ◌<◌, ◌≤◌, ◌⊎◌, List, ◌∷◌, Less, Equal, Greater, sym, refl, ap, ◌∙◌, inl, inr, ⊎_elim, arith}
use Rattle.std.proofs.lemmas.Bool.{cases_eq, cases_Bool, cond-true, cond-false}
use Rattle.std.specs.declared.cmp.Ordering.{Ordering}
use Rattle.std.specs.Ordering.{is_lt}
use Rattle.life.specs.declared.key.Key.{Key}
use Rattle.life.specs.declared.life.Life.{Life}
use Rattle.life.specs.Keys.{alike, rank, Before}
use Rattle.life.specs.Pairs.{erase}
use Rattle.life.proofs.KeyOrder.{strict, key_eq, key_same}
use Rattle.ordered.specs.declared.entry.Entry.{Entry}
use Rattle.ordered.specs.Table.{at, pairs_of, by_rank, placed}
use Rattle.ordered.proofs.Rows.{before_apart}

cases_rank : (o : Ordering) → (o ≡ Less) ⊎ ((o ≡ Equal) ⊎ (o ≡ Greater))
cases_rank Less = inl refl
cases_rank Equal = inr (inl refl)
cases_rank Greater = inr (inr refl)

rank_less : (a b : Key) → Before a b → rank a b ≡ Less
rank_less a b h =
    ⊎_elim (λ e. e)
    (⊎_elim
    (λ e. absurd (before_apart a b h (strict.equal_is_same a b e)))
    (λ e. absurd (strict.never_itself a (strict.onward a b a h (strict.greater_is_after a b e)))))
    (cases_rank (rank a b))

rank_greater : (a b : Key) → Before b a → rank a b ≡ Greater
rank_greater a b h =
    ⊎_elim
    (λ e. absurd (strict.never_itself a (strict.onward a b a (ap is_lt e) h)))
    (⊎_elim (λ e. absurd (before_apart b a h (sym (strict.equal_is_same a b e)))) (λ e. e))
    (cases_rank (rank a b))

pair : Entry → Key × Life
pair e = (e.key, e.life)

-- the same entries have the same pairs
same_pairs : (s t : List Entry) (c : ℕ) → ((m : ℕ) → m < c → at t m ≡ at s m) → pairs_of t c ≡ pairs_of s c
same_pairs s t zero h = refl
same_pairs s t (suc c) h =
    ap (λ (e : Entry). (e.key, e.life) ∷ pairs_of t c) (h c (omega arith))
    ∙ ap (λ ps. ((at s c).key, (at s c).life) ∷ ps) (same_pairs s t c (λ m l. h m (omega arith)))

-- one step of a list into which a pair is put
module _ (k : Key) (l : Life) (p : Key × Life) (ps : List (Key × Life)) where
  by : (o : Ordering) → rank k p.0 ≡ o → placed k l (p ∷ ps) ≡ by_rank (p ∷ placed k l ps) ((k, l) ∷ ps) ((k, l) ∷ p ∷ ps) o
  by o e = ap (by_rank (p ∷ placed k l ps) ((k, l) ∷ ps) ((k, l) ∷ p ∷ ps)) e

-- a new entry at i
pub pairs_inserted : (s t : List Entry) (i : ℕ) (k : Key) (l : Life) (c : ℕ) → i ≤ c
    → ((m : ℕ) → m < i → at t m ≡ at s m) → at t i ≡ record { key = k; life = l } → ((m : ℕ) → i < m → m ≤ c → at t m ≡ at s (m - 1))
    → ((m : ℕ) → m < i → Before (at s m).key k) → ((m : ℕ) → i ≤ m → m < c → Before k (at s m).key)
    → pairs_of t (suc c) ≡ placed k l (pairs_of s c)
pairs_inserted s t i k l zero in_use low here high below above =
    let z : 0 ≡ i = omega arith in
    ap (λ (e : Entry). (e.key, e.life) ∷ pairs_of t 0) (ap (at t) z ∙ here)
pairs_inserted s t i k l (suc c) in_use low here high below above =
    ⊎_elim
    (λ q.
    ap (λ (e : Entry). (e.key, e.life) ∷ pairs_of t (suc c)) (ap (at t) (sym q) ∙ here)
    ∙ ap (λ ps. (k, l) ∷ ps) (same_pairs s t (suc c) (λ m x. low m (omega arith)))
    ∙ sym (by k l _ (pairs_of s c) Greater (rank_greater k _ (below c (omega arith)))))
    (λ n.
    let less : i ≤ c = omega arith in
    let back : suc c - 1 ≡ c = omega arith in
    ap (λ (e : Entry). (e.key, e.life) ∷ pairs_of t (suc c)) (high (suc c) (omega arith) (omega arith) ∙ ap (at s) back)
    ∙ ap (λ ps. ((at s c).key, (at s c).life) ∷ ps) (pairs_inserted s t i k l c less low here (λ m x y. high m x (omega arith)) below (λ m x y. above m x (omega arith)))
    ∙ sym (by k l _ (pairs_of s c) Less (rank_less k _ (above c less (omega arith)))))
    (cases_eq i (suc c))

-- another life at i
pub pairs_replaced : (s t : List Entry) (i : ℕ) (k : Key) (l : Life) (c : ℕ) → i < c
    → ((m : ℕ) → (m ≡ i → ⊥) → at t m ≡ at s m) → at t i ≡ record { key = k; life = l } → (at s i).key ≡ k
    → ((m : ℕ) → i < m → m < c → Before k (at s m).key)
    → pairs_of t c ≡ placed k l (pairs_of s c)
pairs_replaced s t i k l zero in_use else_same here key above = absurd (omega arith)
pairs_replaced s t i k l (suc c) in_use else_same here key above =
    ⊎_elim
    (λ q.
    ap (λ (e : Entry). (e.key, e.life) ∷ pairs_of t c) (ap (at t) (sym q) ∙ here)
    ∙ ap (λ ps. (k, l) ∷ ps) (same_pairs s t c (λ m x. else_same m (λ e. omega arith)))
    ∙ sym (by k l _ (pairs_of s c) Equal (strict.same_is_equal k _ (sym key ∙ ap (λ n. (at s n).key) q))))
    (λ n.
    let less : i < c = omega arith in
    ap (λ (e : Entry). (e.key, e.life) ∷ pairs_of t c) (else_same c (λ e. n (sym e)))
    ∙ ap (λ ps. ((at s c).key, (at s c).life) ∷ ps) (pairs_replaced s t i k l c less else_same here key (λ m x y. above m x (omega arith)))
    ∙ sym (by k l _ (pairs_of s c) Less (rank_less k _ (above c less (omega arith)))))
    (cases_eq i c)

-- no entry of the key
pub pairs_kept : (s : List Entry) (k : Key) (c : ℕ) → ((m : ℕ) → m < c → (at s m).key ≡ k → ⊥) → pairs_of s c ≡ erase k (pairs_of s c)
pairs_kept s k zero far = refl
pairs_kept s k (suc c) far =
    ⊎_elim
    (λ e. absurd (far c (omega arith) (sym (key_eq _ _ e))))
    (λ e. ap (λ ps. ((at s c).key, (at s c).life) ∷ ps) (pairs_kept s k c (λ m x. far m (omega arith))) ∙ sym (cond-false _ _ _ e))
    (cases_Bool (alike k (at s c).key))

-- the entry at i is taken away
pub pairs_deleted : (s t : List Entry) (i : ℕ) (k : Key) (c : ℕ) → i ≤ c
    → ((m : ℕ) → m < i → at t m ≡ at s m) → ((m : ℕ) → i ≤ m → m < c → at t m ≡ at s (m + 1)) → (at s i).key ≡ k
    → ((m : ℕ) → m ≤ c → (m ≡ i → ⊥) → (at s m).key ≡ k → ⊥)
    → pairs_of t c ≡ erase k (pairs_of s (suc c))
pairs_deleted s t i k zero in_use low high key far =
    let z : i ≡ 0 = omega arith in
    sym (cond-true _ _ _ (ap (alike k) (ap (λ n. (at s n).key) (sym z) ∙ key) ∙ key_same k))
pairs_deleted s t i k (suc c) in_use low high key far =
    ⊎_elim
    (λ q.
    same_pairs s t (suc c) (λ m x. low m (omega arith))
    ∙ pairs_kept s k (suc c) (λ m x. far m (omega arith) (λ e. omega arith))
    ∙ sym (cond-true _ _ _ (ap (alike k) (ap (λ n. (at s n).key) (sym q) ∙ key) ∙ key_same k)))
    (λ n.
    let less : i ≤ c = omega arith in
    let more : c + 1 ≡ suc c = omega arith in
    ap (λ (e : Entry). (e.key, e.life) ∷ pairs_of t c) (high c less (omega arith) ∙ ap (at s) more)
    ∙ ap (λ ps. ((at s (suc c)).key, (at s (suc c)).life) ∷ ps) (pairs_deleted s t i k c less low (λ m x y. high m x (omega arith)) key (λ m x y. far m (omega arith) y))
    ∙ ⊎_elim
    (λ e. absurd (far (suc c) (omega arith) (λ e. n (sym e)) (sym (key_eq _ _ e))))
    (λ e. sym (cond-false _ _ _ e))
    (cases_Bool (alike k (at s (suc c)).key)))
    (cases_eq i (suc c))
