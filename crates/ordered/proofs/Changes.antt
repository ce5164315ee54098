-- What a replaced, an inserted and a deleted entry do to a table.
use Rattle.std.proofs.Common.{◌≡◌, ℕ, suc, ◌+◌, ◌-◌, ◌<◌, ◌≤◌, List, length, set, is_some, Some, Ok, Err, sym, refl, ap, ◌∙◌, subst, ⊎_elim, true≢false, arith}
use Rattle.std.proofs.lemmas.List.{length-set}
use Rattle.std.proofs.lemmas.Bool.{cases_order, cases_eq, cases_lt, or_left, or_right, or_from, lt-ltb, le-ltb}
use Rattle.life.specs.declared.key.Key.{Key}
use Rattle.life.specs.declared.life.Life.{Life}
use Rattle.life.specs.Keys.{Before}
use Rattle.life.specs.Pairs.{erase}
use Rattle.life.proofs.Lookups.{same_absent}
use Rattle.ordered.specs.declared.entry.Entry.{Entry}
use Rattle.ordered.specs.Table.{at, room_of, pairs_of, Sound, Sought, PutInto, TakenFrom}
use Rattle.ordered.proofs.Placed.{pairs_inserted, pairs_replaced, pairs_kept, pairs_deleted}
use Rattle.ordered.proofs.Rows.{held, at_same, at_other, room_within, room_to, fits_to, rise, before_apart, one_place, look_none, look_some, pairs_length, puts_in, takes_out}

-- t is s with one entry more at i
pub record Inserted (s t : List Entry) (c i : ℕ) (e : Entry) : Type 0 where
  pub size : length t ≡ length s
  pub low : (m : ℕ) → m < i → at t m ≡ at s m
  pub here : at t i ≡ e
  pub high : (m : ℕ) → i < m → m ≤ c → at t m ≡ at s (m - 1)
  pub rest : (m : ℕ) → c < m → at t m ≡ at s m

-- t is s without the entry at i
pub record Deleted (s t : List Entry) (c i : ℕ) : Type 0 where
  pub size : length t ≡ length s
  pub low : (m : ℕ) → m < i → at t m ≡ at s m
  pub high : (m : ℕ) → i ≤ m → m + 1 < c → at t m ≡ at s (m + 1)
  pub rest : (m : ℕ) → c ≤ m + 1 → at t m ≡ at s m

key_of : (e f : Entry) → e ≡ f → e.key ≡ f.key
key_of e f p = ap (λ (x : Entry). x.key) p

-- where a key belongs, it does not stand
pub absent : (s : List Entry) (c : ℕ) (k : Key) (i : ℕ) → Sought s c k (Err i) → (m : ℕ) → m < c → (at s m).key ≡ k → ⊥
absent s c k i h m l e =
    ⊎_elim (λ q. before_apart _ _ (h.1 m q) e) (λ q. before_apart _ _ (h.2 m q l) (sym e)) (cases_lt m i)

module _ (s : List Entry) (c i : ℕ) (k : Key) (l : Life) (old : Sound s c) (low : i < c) (here : (at s i).key ≡ k) where
  pub replaced : PutInto s c (set s i (record { key = k; life = l })) c k l (Ok tt)
  replaced =
      let t : List Entry = set s i (record { key = k; life = l }) in
      let w : i < length s = omega (arith, room_within s, old.fits) in
      let self : at t i ≡ record { key = k; life = l } = at_same s i _ w i refl in
      let keys : (m : ℕ) → (at t m).key ≡ (at s m).key = λ m.
      ⊎_elim
      (λ q. key_of _ _ (at_same s i _ w m q) ∙ sym here ∙ ap (λ n. (at s n).key) (sym q))
      (λ n. key_of _ _ (at_other s i _ m n))
      (cases_eq m i) in
      let new : Sound t c = record {
        fits = fits_to s t c (length-set s i _) old.fits;
        rising = λ a b x y. rise _ _ _ _ (old.rising a b x y) (keys a) (keys b);
      } in
      record {
        size = length-set s i _;
        held = held new;
        room = room_to s t (length-set s i _);
        fits = sym (or_left _ _ (ap is_some (look_some s k c i old low here)));
        holds = puts_in s c t c k old new
            (λ m x n. (m, x, at_other s i _ m (λ q. n (ap (λ y. (at s y).key) q ∙ here))))
            (λ n x f. (n, x, at_other s i _ n (λ q. f (key_of _ _ (at_same s i _ w n q)))))
            l (look_some t k c i new low (key_of _ _ self) ∙ ap (λ (y : Entry). Some y.life) self);
        pairs = λ _. pairs_replaced s t i k l c low (λ m n. at_other s i _ m n) self here
            (λ m x y. subst (λ q. Before q (at s m).key) here (old.rising i m x y));
        refused = λ f. absurd (true≢false f);
        rest = λ m h. at_other s i _ m (λ q. omega arith);
      }

module _ (s t : List Entry) (c i : ℕ) (k : Key) (l : Life) (old : Sound s c) (room : c < room_of s) (place : Sought s c k (Err i))
    (w : Inserted s t c i (record { key = k; life = l })) where
  ins_key : (at t i).key ≡ k
  ins_key = key_of _ _ w.here

  ins_low : (m : ℕ) → m < i → (at t m).key ≡ (at s m).key
  ins_low m h = key_of _ _ (w.low m h)

  ins_high : (m : ℕ) → i < m → m ≤ c → (at t m).key ≡ (at s (m - 1)).key
  ins_high m h g = key_of _ _ (w.high m h g)

  ins_rising : (a b : ℕ) → a < b → b < c + 1 → Before (at t a).key (at t b).key
  ins_rising a b x y =
      ⊎_elim
      (λ q. rise _ _ _ _ (place.1 a (omega arith)) (ins_low a (omega arith)) (ap (λ n. (at t n).key) q ∙ ins_key))
      (⊎_elim
      (λ q. rise _ _ _ _ (old.rising a b x (omega (arith, place.0))) (ins_low a (omega arith)) (ins_low b q))
      (λ q.
      ⊎_elim
      (λ p. rise _ _ _ _ (place.2 (b - 1) (omega arith) (omega arith)) (ap (λ n. (at t n).key) p ∙ ins_key) (ins_high b q (omega arith)))
      (⊎_elim
      (λ p. rise _ _ _ _ (old.rising a (b - 1) (omega arith) (omega arith)) (ins_low a p) (ins_high b q (omega arith)))
      (λ p. rise _ _ _ _ (old.rising (a - 1) (b - 1) (omega arith) (omega arith)) (ins_high a p (omega arith)) (ins_high b q (omega arith))))
      (cases_order a i)))
      (cases_order b i)

  ins_sound : Sound t (c + 1)
  ins_sound = record { fits = fits_to s t (c + 1) w.size (omega arith); rising = ins_rising }

  go : (m : ℕ) → m < c → ((at s m).key ≡ k → ⊥) → (n : ℕ) × (n < c + 1) × (at t n ≡ at s m)
  go m x _ =
      ⊎_elim
      (λ q. (m, omega arith, w.low m q))
      (λ q.
      let more : m + 1 - 1 ≡ m = omega arith in
      (m + 1, omega arith, w.high (m + 1) (omega arith) (omega arith) ∙ ap (at s) more))
      (cases_lt m i)

  back : (n : ℕ) → n < c + 1 → ((at t n).key ≡ k → ⊥) → (m : ℕ) × (m < c) × (at t n ≡ at s m)
  back n x f =
      ⊎_elim
      (λ q. absurd (f (ap (λ y. (at t y).key) q ∙ ins_key)))
      (⊎_elim
      (λ q. (n, omega (arith, place.0), w.low n q))
      (λ q. (n - 1, omega arith, w.high n q (omega arith))))
      (cases_order n i)

  pub inserted : PutInto s c t (c + 1) k l (Ok tt)
  inserted = record {
    size = w.size;
    held = held ins_sound;
    room = room_to s t w.size;
    fits = sym (or_right _ _ (lt-ltb (length (pairs_of s c)) (room_of s) (omega (arith, pairs_length s c))));
    holds = puts_in s c t (c + 1) k old ins_sound go back l
        (look_some t k (c + 1) i ins_sound (omega (arith, place.0)) ins_key ∙ ap (λ (y : Entry). Some y.life) w.here);
    pairs = λ _. let one : c + 1 ≡ suc c = omega arith in ap (pairs_of t) one ∙ pairs_inserted s t i k l c place.0 w.low w.here w.high place.1 place.2;
    refused = λ f. absurd (true≢false f);
    rest = λ m h. w.rest m (omega arith);
  }

pub refused : (s : List Entry) (c i : ℕ) (k : Key) (l : Life) → Sound s c → room_of s ≤ c → Sought s c k (Err i)
    → PutInto s c s c k l (Err (record {}))
refused s c i k l old full place = record {
  size = refl;
  held = held old;
  room = refl;
  fits = sym (or_from _ _ (ap is_some (look_none s k c (absent s c k i place))) (le-ltb (length (pairs_of s c)) (room_of s) (omega (arith, pairs_length s c))));
  holds = λ q. refl;
  pairs = λ f. absurd (true≢false (sym f));
  refused = λ _. (refl, refl);
  rest = λ m _. refl;
}

module _ (s t : List Entry) (c i : ℕ) (k : Key) (old : Sound s c) (low : i < c) (here : (at s i).key ≡ k) (w : Deleted s t c i) where
  del_low : (m : ℕ) → m < i → (at t m).key ≡ (at s m).key
  del_low m h = key_of _ _ (w.low m h)

  del_high : (m : ℕ) → i ≤ m → m + 1 < c → (at t m).key ≡ (at s (m + 1)).key
  del_high m h g = key_of _ _ (w.high m h g)

  del_rising : (a b : ℕ) → a < b → b < c - 1 → Before (at t a).key (at t b).key
  del_rising a b x y =
      ⊎_elim
      (λ q. rise _ _ _ _ (old.rising a b x (omega arith)) (del_low a (omega arith)) (del_low b q))
      (λ q.
      ⊎_elim
      (λ p. rise _ _ _ _ (old.rising a (b + 1) (omega arith) (omega arith)) (del_low a p) (del_high b q (omega arith)))
      (λ p. rise _ _ _ _ (old.rising (a + 1) (b + 1) (omega arith) (omega arith)) (del_high a p (omega arith)) (del_high b q (omega arith)))
      (cases_lt a i))
      (cases_lt b i)

  del_sound : Sound t (c - 1)
  del_sound = record { fits = fits_to s t (c - 1) w.size (omega (arith, old.fits)); rising = del_rising }

  del_go : (m : ℕ) → m < c → ((at s m).key ≡ k → ⊥) → (n : ℕ) × (n < c - 1) × (at t n ≡ at s m)
  del_go m x f =
      ⊎_elim
      (λ q. absurd (f (ap (λ y. (at s y).key) q ∙ here)))
      (⊎_elim
      (λ q. (m, omega arith, w.low m q))
      (λ q.
      let less : m - 1 + 1 ≡ m = omega arith in
      (m - 1, omega arith, w.high (m - 1) (omega arith) (omega arith) ∙ ap (at s) less)))
      (cases_order m i)

  del_from : (n : ℕ) → n < c - 1 → (m : ℕ) × (m < c) × (at t n ≡ at s m) × (m ≡ i → ⊥)
  del_from n x =
      ⊎_elim
      (λ q. (n, omega arith, w.low n q, λ e. omega arith))
      (λ q. (n + 1, omega arith, w.high n q (omega arith), λ e. omega arith))
      (cases_lt n i)

  pub deleted : TakenFrom s c t (c - 1) k
  deleted = record {
    size = w.size;
    held = held del_sound;
    room = room_to s t w.size;
    holds = takes_out s c t (c - 1) k old del_sound del_go (λ n x _. let f = del_from n x in (f.0, f.1, f.2))
        (look_none t k (c - 1) (λ n x e. let f = del_from n x in f.3 (one_place s c old f.0 i f.1 low (sym (key_of _ _ f.2) ∙ e ∙ sym here))));
    pairs =
        let less : suc (c - 1) ≡ c = omega arith in
        pairs_deleted s t i k (c - 1) (omega arith) w.low (λ m x y. w.high m x (omega arith)) here
        (λ m x n e. n (one_place s c old m i (omega arith) low (e ∙ sym here)))
        ∙ ap (λ n. erase k (pairs_of s n)) less;
    idle = λ z. absurd (omega (arith, old.fits));
    rest = λ m h. w.rest m (omega arith);
  }

pub untouched : (s : List Entry) (c i : ℕ) (k : Key) → Sound s c → Sought s c k (Err i) → TakenFrom s c s c k
untouched s c i k old place = record {
  size = refl;
  held = held old;
  room = refl;
  holds = same_absent k (pairs_of s c) (look_none s k c (absent s c k i place));
  pairs = pairs_kept s k c (absent s c k i place);
  idle = λ _. (refl, refl);
  rest = λ m _. refl;
}
