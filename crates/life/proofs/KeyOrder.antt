-- The order of keys is strict and total, and a key is its parts.
use Rattle.std.proofs.Common.{◌≡◌, ℕ, ◌<◌, Bool, true, false, not, ◌&&◌, eqb, ◌⊎◌, List, [], ◌∷◌, get_or, Ordering, Less, Equal, Greater, sym, refl, ap, ◌∙◌, inl, inr, ⊎_elim, true≢false, arith}
use mathlib.Core.HLevel.{is_prop→PathP}
use native.Mathlib.Bridge.{le_prop}
use native.Mathlib.Nat.{ℕ_set}
use Rattle.std.specs.Ordering.{nat_cmp, is_lt, ordering_then, ordering_reverse}
use Rattle.std.specs.Str.{bytes_eq}
use Rattle.std.proofs.lemmas.Slice.Eq.{bytes_eq-Decides}
use Rattle.std.proofs.lemmas.Bool.{and_from, and_parts, eqb-true, eq-eqb, cases_Bool}
use Rattle.std.proofs.lemmas.Bool.Decides.{nat_tests}
use Rattle.std.proofs.lemmas.Cmp.{tied_itself}
use Rattle.text.specs.Texts.{text_of, lexical, number_order, order}
use Rattle.text.proofs.Compared.{text_same, lex_order}
use Rattle.text.proofs.WordOrder.{orders_first, buys_first}
use Rattle.text.specs.declared.words.Kind.{Kind}
use Rattle.text.specs.declared.words.Kind.TheVariants.{Order, Trade}
use Rattle.text.specs.declared.words.Side.{Side}
use Rattle.text.specs.declared.words.Side.TheVariants.{Buy, Sell}
use Rattle.std.specs.Cmp.Lexicographic.{slice_cmp}
use Rattle.text.specs.contracts.words.KindPartialEq.TheImpl as kind_same
use Rattle.text.specs.contracts.words.KindOrd.TheImpl as kind_ord
use Rattle.text.specs.contracts.words.SidePartialEq.TheImpl as side_same
use Rattle.text.specs.contracts.words.SideOrd.TheImpl as side_ord
use Rattle.life.specs.declared.key.Key.{Key}
use Rattle.life.specs.contracts.key.KeyPartialEq.TheImpl as key_equal
use Rattle.life.specs.contracts.key.KeyOrd.TheImpl as key_ord
use Rattle.life.specs.contracts.key.KeyOrd.TheImpl.Laws.{total-law}
use Rattle.life.specs.Fnv.{word_of}
use Rattle.life.specs.Parts.{KeyParts, key_parts}
use Rattle.life.specs.Keys.{kind_place, side_place, listed_parts, same_key, key_order, alike, rank, Before, StrictOrder}

kind_from : (a b : Kind) → kind_place a ≡ kind_place b → a ≡ b
kind_from Order Order e = refl
kind_from Order Trade e = absurd (omega arith)
kind_from Trade Order e = absurd (omega arith)
kind_from Trade Trade e = refl

side_from : (a b : Side) → side_place a ≡ side_place b → a ≡ b
side_from Buy Buy e = refl
side_from Buy Sell e = absurd (omega arith)
side_from Sell Buy e = absurd (omega arith)
side_from Sell Sell e = refl

-- a key is its parts: the word is that of the id
pub key_from : (a b : Key) → key_parts a ≡ key_parts b → a ≡ b
key_from a b e =
    let id : a.id ≡ b.id = text_same a.id b.id (ap (λ k. k.of_id) e) in
    let word : a.word ≡ b.word = a.kept ∙ ap (λ t. word_of (text_of t)) id ∙ sym b.kept in
    let contract : a.contract ≡ b.contract = ap (λ k. k.of_contract) e in
    λ i. record {
      kind = (e i).of_kind;
      id = id i;
      contract = contract i;
      venue = (e i).of_venue;
      participant = (e i).of_participant;
      side = (e i).of_side;
      word = word i;
      listed = is_prop→PathP (λ j. contract j < 64) (λ j. le_prop) a.listed b.listed i;
      kept = is_prop→PathP (λ j. word j ≡ word_of (text_of (id j))) (λ j. ℕ_set _ _) a.kept b.kept i;
    }

parts_from_list : (a b : KeyParts) → listed_parts a ≡ listed_parts b → a ≡ b
parts_from_list a b p = λ i. record {
  of_kind = kind_from a.of_kind b.of_kind (ap (λ ps. get_or (get_or ps 0 []) 0 0) p) i;
  of_id = get_or (p i) 1 [];
  of_contract = get_or (get_or (p i) 2 []) 0 0;
  of_venue = get_or (p i) 3 [];
  of_participant = get_or (p i) 4 [];
  of_side = side_from a.of_side b.of_side (ap (λ ps. get_or (get_or ps 5 []) 0 0) p) i;
}

-- ---- The derived comparisons are those of the parts

kind_cmp : (k l : Kind) → kind_ord.ghosts.cmp k l ≡ order (kind_place k ∷ []) (kind_place l ∷ [])
kind_cmp Order Order = refl
kind_cmp Order Trade = orders_first
kind_cmp Trade Order = refl
kind_cmp Trade Trade = refl

side_cmp : (s t : Side) → side_ord.ghosts.cmp s t ≡ order (side_place s ∷ []) (side_place t ∷ [])
side_cmp Buy Buy = refl
side_cmp Buy Sell = buys_first
side_cmp Sell Buy = refl
side_cmp Sell Sell = refl

ends : (o : Ordering) → ordering_then o Equal ≡ o
ends Less = refl
ends Equal = refl
ends Greater = refl

contract_cmp : (x y : ℕ) → nat_cmp x y ≡ order (x ∷ []) (y ∷ [])
contract_cmp x y = sym (ends (nat_cmp x y)) ∙ lex_order (x ∷ []) (y ∷ [])

pub cmp_is : (a b : Key) → key_ord.ghosts.cmp a b ≡ rank a b
unfolding rank key_order
cmp_is a b = λ i.
    ordering_then (kind_cmp a.kind b.kind i)
    (ordering_then (lex_order (text_of a.id) (text_of b.id) i)
    (ordering_then (contract_cmp a.contract b.contract i)
    (ordering_then (lex_order a.venue b.venue i)
    (ordering_then (lex_order a.participant b.participant i)
    ((side_cmp a.side b.side ∙ sym (ends (order (side_place a.side ∷ []) (side_place b.side ∷ [])))) i)))))

-- kinds that are not the same decide, and others do not
kinds_differ : (k l : Kind) (o : Ordering) → true ≡ not (kind_same.ghosts.eq k l) → ordering_then (kind_ord.ghosts.cmp k l) o ≡ kind_ord.ghosts.cmp k l
kinds_differ Order Order o e = absurd (true≢false e)
kinds_differ Order Trade o e = refl
kinds_differ Trade Order o e = refl
kinds_differ Trade Trade o e = absurd (true≢false e)

kinds_agree : (k l : Kind) (o : Ordering) → false ≡ not (kind_same.ghosts.eq k l) → ordering_then (kind_ord.ghosts.cmp k l) o ≡ o
kinds_agree Order Order o e = refl
kinds_agree Order Trade o e = absurd (true≢false (sym e))
kinds_agree Trade Order o e = absurd (true≢false (sym e))
kinds_agree Trade Trade o e = refl

then_assoc : (o p q : Ordering) → ordering_then (ordering_then o p) q ≡ ordering_then o (ordering_then p q)
then_assoc Less p q = refl
then_assoc Equal p q = refl
then_assoc Greater p q = refl

-- what `compare` found: the kinds differ, or the other parts, one at a time
after_kind : Key → Key → Ordering
after_kind a b =
    ordering_then (slice_cmp nat_cmp (text_of a.id) (text_of b.id))
    (ordering_then (nat_cmp a.contract b.contract)
    (ordering_then (slice_cmp nat_cmp a.venue b.venue)
    (ordering_then (slice_cmp nat_cmp a.participant b.participant) (side_ord.ghosts.cmp a.side b.side))))

kind_first : (a b : Key) → ordering_then (kind_ord.ghosts.cmp a.kind b.kind) (after_kind a b) ≡ rank a b
unfolding after_kind
kind_first a b = cmp_is a b

pub by_kind : (a b : Key) (r : Ordering) → true ≡ not (kind_same.ghosts.eq a.kind b.kind) → r ≡ kind_ord.ghosts.cmp a.kind b.kind → r ≡ rank a b
by_kind a b r d e = e ∙ sym (kinds_differ a.kind b.kind (after_kind a b) d) ∙ kind_first a b

pub by_others : (a b : Key) (i n v p r : Ordering)
    → false ≡ not (kind_same.ghosts.eq a.kind b.kind)
    → i ≡ slice_cmp nat_cmp (text_of a.id) (text_of b.id)
    → n ≡ ordering_then i (nat_cmp a.contract b.contract)
    → v ≡ ordering_then n (slice_cmp nat_cmp a.venue b.venue)
    → p ≡ ordering_then v (slice_cmp nat_cmp a.participant b.participant)
    → r ≡ ordering_then p (side_ord.ghosts.cmp a.side b.side)
    → r ≡ rank a b
unfolding after_kind
by_others a b i n v p r d ei en ev ep er =
    let e : r ≡ ordering_then (ordering_then (ordering_then (ordering_then (slice_cmp nat_cmp (text_of a.id) (text_of b.id))
    (nat_cmp a.contract b.contract)) (slice_cmp nat_cmp a.venue b.venue)) (slice_cmp nat_cmp a.participant b.participant)) (side_ord.ghosts.cmp a.side b.side) = cc in
    let f : r ≡ after_kind a b = e ∙ simp then_assoc in
    f ∙ sym (kinds_agree a.kind b.kind (after_kind a b) d) ∙ kind_first a b

kind_eq : (k l : Kind) → kind_same.ghosts.eq k l ≡ eqb (kind_place k) (kind_place l)
kind_eq Order Order = refl
kind_eq Order Trade = refl
kind_eq Trade Order = refl
kind_eq Trade Trade = refl

side_eq : (s t : Side) → side_same.ghosts.eq s t ≡ eqb (side_place s) (side_place t)
side_eq Buy Buy = refl
side_eq Buy Sell = refl
side_eq Sell Buy = refl
side_eq Sell Sell = refl

pub eq_is : (a b : Key) → key_equal.ghosts.eq a b ≡ alike a b
unfolding alike same_key
eq_is a b = λ i.
    kind_eq a.kind b.kind i
    && (bytes_eq (text_of a.id) (text_of b.id)
    && (eqb a.contract b.contract
    && (bytes_eq a.venue b.venue && (bytes_eq a.participant b.participant && side_eq a.side b.side i))))

flip : (a b : Key) → rank a b ≡ ordering_reverse (rank b a)
flip a b = sym (cmp_is a b) ∙ total-law.antisymm a b ∙ ap ordering_reverse (cmp_is b a)

less_trans : (a b c : Key) → rank a b ≡ Less → rank b c ≡ Less → rank a c ≡ Less
less_trans a b c p q = sym (cmp_is a c) ∙ total-law.trans a b c (cmp_is a b ∙ p) (cmp_is b c ∙ q)

then_equal : (o p : Ordering) → ordering_then o p ≡ Equal → (o ≡ Equal) × (p ≡ Equal)
then_equal Less p h = absurd (true≢false (ap is_lt h))
then_equal Equal p h = (refl, h)
then_equal Greater p h = absurd (true≢false (ap (λ o. is_lt (ordering_reverse o)) h))

lexical_equal : {X : Type 0} (f : X → X → Ordering) → ((x y : X) → f x y ≡ Equal → x ≡ y) → (xs ys : List X) → lexical f xs ys ≡ Equal → xs ≡ ys
lexical_equal f h [] [] e = refl
lexical_equal f h [] (y ∷ ys) e = absurd (true≢false (ap is_lt e))
lexical_equal f h (x ∷ xs) [] e = absurd (true≢false (ap (λ o. is_lt (ordering_reverse o)) e))
lexical_equal f h (x ∷ xs) (y ∷ ys) e =
    let p = then_equal (f x y) (lexical f xs ys) e in
    λ i. h x y p.0 i ∷ lexical_equal f h xs ys p.1 i

number_equal : (x y : ℕ) → number_order x y ≡ Equal → x ≡ y
number_equal x y e = grind (arith, nat_tests)

compare_equal : (a b : Key) → rank a b ≡ Equal → a ≡ b
unfolding rank key_order
compare_equal a b e =
    key_from a b (parts_from_list (key_parts a) (key_parts b)
    (lexical_equal order (lexical_equal number_order number_equal) (listed_parts (key_parts a)) (listed_parts (key_parts b)) e))

compare_self : (a : Key) → rank a a ≡ Equal
compare_self a = sym (cmp_is a a) ∙ tied_itself total-law a

is_less : (o : Ordering) → is_lt o ≡ true → o ≡ Less
is_less Less h = refl
is_less Equal h = absurd (true≢false (sym h))
is_less Greater h = absurd (true≢false (sym h))

bytes_same : (xs ys : List ℕ) → bytes_eq xs ys ≡ true → xs ≡ ys
bytes_same xs ys = (bytes_eq-Decides xs ys).0

six_parts : (a b c d e f : Bool) → (a && (b && (c && (d && (e && f))))) ≡ true
    → (a ≡ true) × (b ≡ true) × (c ≡ true) × (d ≡ true) × (e ≡ true) × (f ≡ true)
six_parts a b c d e f h =
    let p = and_parts a (b && (c && (d && (e && f)))) h in
    let q = and_parts b (c && (d && (e && f))) p.1 in
    let r = and_parts c (d && (e && f)) q.1 in
    let s = and_parts d (e && f) r.1 in
    let t = and_parts e f s.1 in
    (p.0, q.0, r.0, s.0, t.0, t.1)

six_from : (a b c d e f : Bool) → a ≡ true → b ≡ true → c ≡ true → d ≡ true → e ≡ true → f ≡ true
    → (a && (b && (c && (d && (e && f))))) ≡ true
six_from a b c d e f p q r s t u =
    and_from a _ p (and_from b _ q (and_from c _ r (and_from d _ s (and_from e f t u))))

pub parts_eq : (a b : KeyParts) → same_key a b ≡ true → a ≡ b
unfolding same_key
parts_eq a b e =
    let h = six_parts (eqb (kind_place a.of_kind) (kind_place b.of_kind)) (bytes_eq a.of_id b.of_id) (eqb a.of_contract b.of_contract)
    (bytes_eq a.of_venue b.of_venue) (bytes_eq a.of_participant b.of_participant) (eqb (side_place a.of_side) (side_place b.of_side)) e in
    let kind = kind_from a.of_kind b.of_kind (eqb-true (kind_place a.of_kind) (kind_place b.of_kind) h.0) in
    let id = bytes_same a.of_id b.of_id h.1 in
    let contract = eqb-true a.of_contract b.of_contract h.2 in
    let venue = bytes_same a.of_venue b.of_venue h.3 in
    let participant = bytes_same a.of_participant b.of_participant h.4 in
    let side = side_from a.of_side b.of_side (eqb-true (side_place a.of_side) (side_place b.of_side) h.5) in
    λ i. record { of_kind = kind i; of_id = id i; of_contract = contract i; of_venue = venue i; of_participant = participant i; of_side = side i }

bytes_self : (xs : List ℕ) → bytes_eq xs xs ≡ true
bytes_self xs = (bytes_eq-Decides xs xs).1 refl

eqb_self : (n : ℕ) → eqb n n ≡ true
eqb_self n = eq-eqb n n refl

pub parts_same : (a : KeyParts) → same_key a a ≡ true
unfolding same_key
parts_same a =
    six_from _ _ _ _ _ _ (eqb_self (kind_place a.of_kind)) (bytes_self a.of_id) (eqb_self a.of_contract)
    (bytes_self a.of_venue) (bytes_self a.of_participant) (eqb_self (side_place a.of_side))

-- keys with other words are not one
pub other_word : (a b : Key) → (a.word ≡ b.word → ⊥) → false ≡ same_key (key_parts a) (key_parts b)
other_word a b n =
    ⊎_elim
    (λ t. absurd (n (ap (λ (k : Key). k.word) (key_from a b (parts_eq (key_parts a) (key_parts b) t)))))
    (λ f. sym f)
    (cases_Bool (same_key (key_parts a) (key_parts b)))

pub key_eq : (a b : Key) → alike a b ≡ true → a ≡ b
unfolding alike
key_eq a b e = key_from a b (parts_eq (key_parts a) (key_parts b) e)

pub key_same : (k : Key) → alike k k ≡ true
unfolding alike
key_same k = parts_same (key_parts k)

by_three : (a b : Key) (o : Ordering) → rank a b ≡ o → Before a b ⊎ ((a ≡ b) ⊎ Before b a)
by_three a b Less e = inl (ap is_lt e)
by_three a b Equal e = inr (inl (compare_equal a b e))
by_three a b Greater e = inr (inr (ap is_lt (flip b a ∙ ap ordering_reverse e)))

pub strict : StrictOrder
strict = record {
  never_itself = λ a h. true≢false (sym h ∙ ap is_lt (compare_self a));
  onward = λ a b c p q. ap is_lt (less_trans a b c (is_less _ p) (is_less _ q));
  one_of_three = λ a b. by_three a b (rank a b) refl;
  equal_is_same = compare_equal;
  same_is_equal = λ a b e. ap (rank a) (sym e) ∙ compare_self a;
  greater_is_after = λ a b e. ap is_lt (flip b a ∙ ap ordering_reverse e);
  alike_is_same = key_eq;
  same_is_alike = λ a b e. ap (alike a) (sym e) ∙ key_same a;
  parts_are_all = key_from;
}
