-- The parts of a name, from the left.
use Rattle.std.proofs.Common.{◌≡◌, ℕ, zero, suc, ◌+◌, ◌-◌, ◌<◌, ◌≤◌, Bool, true, false, cond, not, ◌&&◌, eqb, ltb, List, [], ◌∷◌, ◌++◌, length, take, drop, get_or, is_some, Some, None, Ok, codes, Option, Result, sym, refl, ap, subst, ◌∙◌, ⊎_elim, append_assoc, arith}
use Rattle.std.specs.Borrow.{Bor}
use Rattle.std.specs.Bool.{MatchBool}
use Rattle.std.specs.Char.{is_ascii_digit}
use Rattle.std.specs.Fn.{Mut, CalledAt, ComputesKey}
use Rattle.std.specs.List.{slice_split, onto_first, IsFirstMatchOrLen, All}
use Rattle.std.specs.Slice.Iter.{split_steps, split_rest, split_done, split_callee}
use Rattle.std.specs.declared.slice.Split.{Split}
use Rattle.std.proofs.lemmas.Fn.{always_returns_same}
use Rattle.std.proofs.lemmas.Grind.{common_steps}
use Rattle.std.proofs.lemmas.List.Splits.{slice_split_none, slice_split_at}
use Rattle.std.proofs.lemmas.Slice.Eq.{bytes_eq-Decides}
use Rattle.std.proofs.lemmas.List.{append-nil, take_all, take-append-drop, length-take-le, drop-drop}
use Rattle.std.proofs.lemmas.List.Sums.{prefix_len-le-length}
use Rattle.std.proofs.lemmas.Bool.{cases_Bool, and_parts, and_right}
use Rattle.std.proofs.lemmas.Bool.Decides.{nat_tests}
use Rattle.text.specs.Bytes as text
use Rattle.text.specs.Bytes.{Bytes, between, every, pieces, piece, start, then, value, has_form}
use Rattle.text.specs.Cuts.{span_to, front_to}
use Rattle.text.specs.Forms.{code_form}
use Rattle.text.specs.Rows.{Refusal, settled_by}
use Rattle.text.proofs.Pieces.{piece_and_more, piece_alone, first_after}
use Rattle.filing.specs.Codes.{code_there}
use Rattle.filing.specs.Names.{a_date, a_schema, a_version, a_last, code_in, name_form, code_offset, naming}
use Rattle.filing.proofs.Adding.{says_itself}

-- ---- The parts as `split` gives them, one at each call of `next`

same_onto_first : (b : ℕ) (ts : List Bytes) → onto_first b ts ≡ text.onto_first b ts
same_onto_first b [] = refl
same_onto_first b (t ∷ ts) = refl

abbrev a_bar : ℕ → Bool
a_bar b = eqb b 95

pieces_split : (bs : Bytes) → slice_split a_bar bs ≡ pieces 95 bs
pieces_split [] = refl
pieces_split (b ∷ bs) = λ i. cond (eqb b 95) ([] ∷ pieces_split bs i) ((ap (onto_first b) (pieces_split bs) ∙ same_onto_first b (pieces 95 bs)) i)

-- the parts that are still to come
abbrev pub parts_in : {F : Type 0} → Split ℕ F → List Bytes
parts_in s = cond (split_done s) [] (pieces 95 (split_rest s))

first_part : (xs x rest : Bytes) (done : Bool) → MatchBool done (xs ≡ x) ((y : ℕ) × (xs ≡ x ++ (y ∷ rest))) → IsFirstMatchOrLen a_bar xs (length x)
    → slice_split a_bar xs ≡ x ∷ cond done [] (slice_split a_bar rest)
first_part xs x rest true e h =
    ap (slice_split a_bar) e
    ∙ slice_split_none a_bar x (λ k d l. subst (λ ys. a_bar (get_or ys k d) ≡ false) e (h.0 k d (omega arith) l))
first_part xs x rest false e h =
    let front : All (λ z. a_bar z ≡ false) x = λ k d l. let a = h.0 k d (omega arith) l in let b = e.1 in grind (arith, common_steps) in
    let hit : a_bar e.0 ≡ true = let b = e.1 in let a = h.1 (grind (arith, common_steps)) e.0 in grind (arith, common_steps) in
    ap (slice_split a_bar) e.1 ∙ slice_split_at a_bar x e.0 rest front hit

-- a name's parts: those that were taken, and then those that are still to come
pub record Cut {F : Type 0} (name : Bytes) (taken : List Bytes) (s : Split ℕ F) : Type 0 where
  pub parts : pieces 95 name ≡ taken ++ parts_in s

-- a call gives nothing exactly where nothing is to come
pub ended : {F : Type 0} (g : Mut F (Bor ℕ × Unit {0}) Bool) (s t : Split ℕ F) (r : Option (Bor Bytes)) {some : Bool}
    → split_steps g s r t → some ≡ is_some r → split_done s ≡ not some
ended g s t None h e = h.0 ∙ ap not (sym e)
ended g s t (Some x) h e = h.0 ∙ ap not (sym e)

module _ {F : Type 0} {name : Bytes} {s : Split ℕ F} where
  pub cut_none : split_rest s ≡ name → split_done s ≡ false → Cut name [] s
  cut_none rest done = record { parts = λ i. cond (sym done i) [] (pieces 95 (sym rest i)) }

  pub cut_all : {taken : List Bytes} → Cut name taken s → split_done s ≡ true → pieces 95 name ≡ taken
  cut_all {taken} c done = c.parts ∙ ap (λ d. taken ++ cond d [] (pieces 95 (split_rest s))) done ∙ append-nil taken

  pub cut_more : {taken : List Bytes} → Cut name taken s → split_done s ≡ false → (u : Bytes) × (us : List Bytes) × (pieces 95 name ≡ taken ++ u ∷ us)
  cut_more {taken} c done =
      let to_come = c.parts ∙ ap (λ d. taken ++ cond d [] (pieces 95 (split_rest s))) done in
      (_, _, to_come ∙ ap (λ ts. taken ++ ts) (first_after 95 (split_rest s)))

-- each part that a call gives is the next of the name's parts
module _ {F : Type 0} (g : Mut F (Bor ℕ × Unit {0}) Bool) {name : Bytes} {s t : Split ℕ F} where
  pub cut_next : {taken : List Bytes} → Cut name taken s → (x : Bor Bytes) → split_steps g s (Some x) t
      → ((y : ℕ) (b : Bool) (q : F) → CalledAt g (split_callee s) y b q → (q ≡ split_callee s) × (b ≡ eqb y 95)) → Cut name (taken ++ x.now ∷ []) t
  cut_next {taken} c x h tests =
      let by_bar : ComputesKey g a_bar (split_callee s) =
      always_returns_same g (λ a r. r ≡ a_bar a.0.now) (split_callee s)
      (λ a r q k. let m = tests a.0.now r q (record { shown = a.0; shows = refl; called = k }) in (m.1, m.0)) in
      let next : parts_in s ≡ x.now ∷ parts_in t =
      (λ i. cond (h.0 i) [] (sym (pieces_split (split_rest s)) i))
      ∙ first_part (split_rest s) x.now (split_rest t) (split_done t) h.1 (h.2 a_bar by_bar).1
      ∙ (λ i. x.now ∷ cond (split_done t) [] (pieces_split (split_rest t) i)) in
      record { parts = c.parts ∙ ap (λ ts. taken ++ ts) next ∙ sym (append_assoc taken (x.now ∷ []) (parts_in t)) }

-- ---- All parts

abbrev around : Bytes → Bytes → Bytes → Bytes → Bool
around d s v l = a_date d && (a_schema s && (a_version v && a_last l))

-- ---- The last part has no `_`: a name with one there has more than five parts

digits_xml : (xs : Bytes) → every is_ascii_digit xs ≡ true → span_to 95 (xs ++ codes ".xml") ≡ length (xs ++ codes ".xml")
digits_xml [] e = refl
digits_xml (x ∷ xs) e =
    let d = and_parts (is_ascii_digit x) (every is_ascii_digit xs) e in
    let h = digits_xml xs d.1 in
    let n : eqb x 95 ≡ false = grind (arith, nat_tests, d.0) in
    ap (λ t. cond (not t) (1 + span_to 95 (xs ++ codes ".xml")) 0) n ∙ omega arith

no_bar : (t : Bytes) → a_last t ≡ true → span_to 95 t ≡ length t
no_bar t e =
    let p = and_parts (between 5 13 (length t)) _ e in
    let q = and_parts (every is_ascii_digit (take (length t - 4) t)) _ p.1 in
    let s = (bytes_eq-Decides (drop (length t - 4) t) (codes ".xml")).0 q.1 in
    let w : take (length t - 4) t ++ codes ".xml" ≡ t = ap (λ u. take (length t - 4) t ++ u) (sym s) ∙ take-append-drop (length t - 4) t in
    ap (span_to 95) (sym w) ∙ digits_xml (take (length t - 4) t) q.0 ∙ ap length w

barred : (t : Bytes) → span_to 95 t < length t → a_last t ≡ false
barred t l =
    ⊎_elim
    (λ (y : a_last t ≡ true). absurd (omega (arith, no_bar t y)))
    (λ (n : a_last t ≡ false). n)
    (cases_Bool (a_last t))

never_around : (d s v l : Bytes) → a_last l ≡ false → around d s v l ≡ false
never_around d s v l e = and_right (a_date d) _ (and_right (a_schema s) _ (and_right (a_version v) _ e))

-- so five parts, the last one cut no more, fit exactly where all that follow do
last_part : (d s v c l : Bytes) → code_in (d ∷ s ∷ v ∷ c ∷ pieces 95 l) ≡ cond (around d s v l) (code_form c) None
last_part d s v c l =
    ⊎_elim
    (λ (y : ltb (span_to 95 l) (length l) ≡ true).
    let h : span_to 95 l < length l = grind (arith, nat_tests) in
    ap (λ ts. code_in (d ∷ s ∷ v ∷ c ∷ ts)) (piece_and_more 95 l h ∙ ap (λ ts. front_to 95 l ∷ ts) (first_after 95 (drop (span_to 95 l + 1) l)))
    ∙ sym (ap (λ b. cond b (code_form c) None) (never_around d s v l (barred l h))))
    (λ (n : ltb (span_to 95 l) (length l) ≡ false).
    let h : length l ≤ span_to 95 l = grind (arith, nat_tests) in
    ap (λ ts. code_in (d ∷ s ∷ v ∷ c ∷ ts)) (piece_alone 95 l h ∙ ap (λ u. u ∷ []) (take_all (span_to 95 l) l h)))
    (cases_Bool (ltb (span_to 95 l) (length l)))

module _ (name : Bytes) where
  pub too_few : (ts : List Bytes) → pieces 95 name ≡ ts → code_in ts ≡ None → None ≡ code_there name
  unfolding name_form
  too_few ts e n = sym (ap (λ o. then o (λ code. Some (code, code_offset name))) (ap code_in e ∙ n))

  module _ (d s v c l : Bytes) (e : pieces 95 name ≡ d ∷ s ∷ v ∷ c ∷ l ∷ []) where
    pub name_says : name_form name ≡ cond (around d s v l) (code_form c) None
    unfolding name_form
    name_says = ap code_in e

    pub offset_is : code_offset name ≡ length d + length s + length v + 3
    unfolding code_offset
    offset_is = ap (start 4) e ∙ omega arith

    pub unlike : false ≡ around d s v l → None ≡ code_there name
    unlike h = sym (ap (λ o. then o (λ code. Some (code, code_offset name))) (name_says ∙ ap (λ b. cond b (code_form c) None) (sym h)))

    pub code_said : (o : Option Bytes) → true ≡ around d s v l → o ≡ code_form c → then o (λ code. Some (code, length d + length s + length v + 3)) ≡ code_there name
    code_said o h f =
        ap (λ n. then o (λ code. Some (code, n))) (sym offset_is)
        ∙ ap (λ x. then x (λ code. Some (code, code_offset name))) (f ∙ sym (name_says ∙ ap (λ b. cond b (code_form c) None) (sym h)))

-- ---- The code is that part of the name

pub stands : (k : ℕ) (t : Bytes) → k < length (pieces 95 t) → piece (suc k) (pieces 95 t) ≡ take (length (piece (suc k) (pieces 95 t))) (drop (start (suc k) (pieces 95 t)) t)
stands zero t h =
    let e = first_after 95 t in
    let f : front_to 95 t ≡ take (length (front_to 95 t)) t = grind (arith, length-take-le, prefix_len-le-length) in
    ap (piece 1) e ∙ f ∙ ap (λ ts. take (length (piece 1 ts)) t) (sym e)
stands (suc k) t h =
    ⊎_elim
    (λ (y : ltb (span_to 95 t) (length t) ≡ true).
    let l : span_to 95 t < length t = grind (arith, nat_tests) in
    let e = piece_and_more 95 t l in
    let r = drop (span_to 95 t + 1) t in
    let n : length (front_to 95 t) ≡ span_to 95 t = length-take-le (span_to 95 t) t (omega arith) in
    let m = ap length e in
    let i = stands k r (omega arith) in
    let j : drop (start (suc k) (pieces 95 r)) r ≡ drop (length (front_to 95 t) + 1 + start (suc k) (pieces 95 r)) t =
    drop-drop (start (suc k) (pieces 95 r)) (span_to 95 t + 1) t ∙ ap (λ x. drop x t) (omega arith) in
    ap (piece (suc (suc k))) e
    ∙ i
    ∙ ap (take (length (piece (suc k) (pieces 95 r)))) j
    ∙ ap (λ ts. take (length (piece (suc (suc k)) ts)) (drop (start (suc (suc k)) ts) t)) (sym e))
    (λ (n : ltb (span_to 95 t) (length t) ≡ false).
    let l : length t ≤ span_to 95 t = grind (arith, nat_tests) in
    absurd (omega (arith, ap length (piece_alone 95 t l))))
    (cases_Bool (ltb (span_to 95 t) (length t)))

code_fourth : (ts : List Bytes) (c : Bytes) → code_in ts ≡ Some c → (3 < length ts) × (c ≡ piece 4 ts)
code_fourth [] c e = absurd (let z : ◌≡◌ {A = ℕ} 0 1 = cc in omega arith)
code_fourth (a ∷ []) c e = absurd (let z : ◌≡◌ {A = ℕ} 0 1 = cc in omega arith)
code_fourth (a ∷ b ∷ []) c e = absurd (let z : ◌≡◌ {A = ℕ} 0 1 = cc in omega arith)
code_fourth (a ∷ b ∷ x ∷ []) c e = absurd (let z : ◌≡◌ {A = ℕ} 0 1 = cc in omega arith)
code_fourth (a ∷ b ∷ x ∷ y ∷ []) c e = absurd (let z : ◌≡◌ {A = ℕ} 0 1 = cc in omega arith)
code_fourth (a ∷ b ∷ x ∷ y ∷ l ∷ []) c e = (omega arith, says_itself y c (sym (chosen (around a b x l) e)))
  where
    chosen : (t : Bool) → cond t (code_form y) None ≡ Some c → code_form y ≡ Some c
    chosen true e = e
    chosen false e = absurd (let z : ◌≡◌ {A = ℕ} 0 1 = cc in omega arith)
code_fourth (a ∷ b ∷ x ∷ y ∷ l ∷ m ∷ ts) c e = absurd (let z : ◌≡◌ {A = ℕ} 0 1 = cc in omega arith)

abbrev Answered : Bytes → Bytes → ℕ → Type 0
Answered name c at = (◌≡◌ {A = Result (Bytes × ℕ) Refusal} (Ok (c, at)) (naming name)) × (c ≡ take (length c) (drop at name))

pub answered : (name c : Bytes) (at : ℕ) → ◌≡◌ {A = Option (Bytes × ℕ)} (Some (c, at)) (code_there name) → Answered name c at
unfolding name_form code_offset
answered name c at e = go (name_form name) refl e
  where
    go : (o : Option Bytes) → name_form name ≡ o → ◌≡◌ {A = Option (Bytes × ℕ)} (Some (c, at)) (then o (λ code. Some (code, code_offset name))) → Answered name c at
    go None n e = absurd (let z : ◌≡◌ {A = ℕ} 0 1 = cc in omega arith)
    go (Some d) n e =
        let pair : ◌≡◌ {A = Bytes × ℕ} (c, at) (d, code_offset name) = cc in
        let p : c ≡ d = ap (λ (x : Bytes × ℕ). x.0) pair in
        let q : at ≡ code_offset name = ap (λ (x : Bytes × ℕ). x.1) pair in
        let f = code_fourth (pieces 95 name) d n in
        let w = p ∙ f.1 in (
          (λ i. Ok (p i, q i)) ∙ sym (ap (λ o. settled_by name (value [] o, code_offset name) (cond (not (has_form o)) (Some (64, 0)) None)) n),
          w ∙ stands 3 name f.0 ∙ sym (λ i. take (length (w i)) (drop (q i) name)),
        )
