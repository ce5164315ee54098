-- A map with the place of the last accepted Error of each key.
use Rattle.std.proofs.Common.{leb, ◌≡◌, ℕ, ◌+◌, ◌≤◌, ◌<◌, Bool, true, false, cond, ◌&&◌, ◌||◌, List, [], ◌∷◌, ◌++◌, length, take, drop, Some, Option, Ordering, Less, Equal, Greater, sym, refl, ap, ◌∙◌, ⊎_elim, true≢false, arith, length-append, le-leb, get_or, subst}
use Rattle.std.specs.Ordering.{is_eq}
use Rattle.std.specs.Option.{option_map_or}
use Rattle.std.specs.BTreeMap.{BTreeMap, get}
use lib.ListN.{length-map}
use Rattle.std.proofs.Math.Bool.{or-false, or_assoc}
use Rattle.std.proofs.lemmas.List.{drop_all, drop-append-le, length-take-le, map_more}
use Rattle.std.proofs.lemmas.Bool.{cases_lt, lt-leb, or_right}
use Rattle.text.specs.declared.words.Action.{Action}
use Rattle.text.specs.contracts.words.ActionPartialEq.TheImpl as action_same
use Rattle.text.specs.declared.words.Action.TheVariants.{New, Modify, Error, Cancel}
use Rattle.life.specs.declared.key.Key.{Key}
use Rattle.life.specs.contracts.key.KeyOrd.TheImpl as key_ord
use Rattle.life.specs.Parts.{KeyParts, key_parts}
use Rattle.life.specs.Keys.{same_key}
use Rattle.life.specs.Rules.{is_error}
use Rattle.life.proofs.KeyOrder.{cmp_is, key_from, parts_eq, parts_same, strict}
use Rattle.resends.specs.declared.mark.Mark.{Mark}
use Rattle.resends.specs.declared.mark.Mark.TheVariants.{NoLine, Refused, Accepted}
use Rattle.resends.specs.Marks.{MarkParts, LineOf, mark_parts, marks_in, strikes_at, struck_in, LastErrors}

-- two keys compare Equal exactly where they have the same parts
equal_keys : (a b : Key) → is_eq (key_ord.ghosts.cmp a b) ≡ same_key (key_parts a) (key_parts b)
equal_keys a b = by (key_ord.ghosts.cmp a b) (same_key (key_parts a) (key_parts b)) refl refl
  where
    equal : key_ord.ghosts.cmp a b ≡ Equal → same_key (key_parts a) (key_parts b) ≡ true
    equal e = ap (λ k. same_key (key_parts a) (key_parts k)) (sym (strict.equal_is_same a b (sym (cmp_is a b) ∙ e))) ∙ parts_same (key_parts a)

    by : (o : Ordering) (s : Bool) → key_ord.ghosts.cmp a b ≡ o → same_key (key_parts a) (key_parts b) ≡ s → is_eq o ≡ s
    by o true e same = ap is_eq (sym e ∙ cmp_is a b ∙ strict.same_is_equal a b (key_from a b (parts_eq (key_parts a) (key_parts b) same)))
    by Less false e same = refl
    by Equal false e same = absurd (true≢false (sym (equal e) ∙ same))
    by Greater false e same = refl

-- the marks with one more, from a place on
module _ (k : KeyParts) (m : MarkParts) where
  struck_push : (xs : List MarkParts) → struck_in k (xs ++ m ∷ []) ≡ (struck_in k xs || strikes_at k m)
  struck_push [] = or-false (strikes_at k m)
  struck_push (x ∷ xs) = ap (λ b. strikes_at k x || b) (struck_push xs) ∙ sym (or_assoc (strikes_at k x) (struck_in k xs) (strikes_at k m))

  near : (xs : List MarkParts) (from : ℕ) → from ≤ length xs → struck_in k (drop from (xs ++ m ∷ [])) ≡ (struck_in k (drop from xs) || strikes_at k m)
  near xs from le = ap (struck_in k) (drop-append-le from xs (m ∷ []) le) ∙ struck_push (drop from xs)

  far : (xs : List MarkParts) (from : ℕ) → length xs < from → struck_in k (drop from (xs ++ m ∷ [])) ≡ false
  far xs from gt = ap (struck_in k) (drop_all from (xs ++ m ∷ []) (omega (arith, gt, length-append xs (m ∷ []))))

far_before : (k : KeyParts) (xs : List MarkParts) (from : ℕ) → length xs < from → struck_in k (drop from xs) ≡ false
far_before k xs from gt = ap (struck_in k) (drop_all from xs (omega (arith, gt)))

module _ (xs : List MarkParts) (last : BTreeMap Key ℕ) (was : LastErrors xs last) where
  -- a mark more that is no Error
  errors_same : (m : MarkParts) → ((k : KeyParts) → strikes_at k m ≡ false) → LastErrors (xs ++ m ∷ []) last
  errors_same m none k from =
      ⊎_elim
      (λ gt. far (key_parts k) m xs from gt ∙ sym (far_before (key_parts k) xs from gt) ∙ was k from)
      (λ le. near (key_parts k) m xs from le ∙ ap (λ b. struck_in (key_parts k) (drop from xs) || b) (none (key_parts k)) ∙ or-false _ ∙ was k from)
      (cases_lt (length xs) from)

  -- an Error more, whose place goes to its key
  errors_more : (next : BTreeMap Key ℕ) (q : Key) → ((k : Key) → get key_ord.ghosts.cmp next k ≡ cond (is_eq (key_ord.ghosts.cmp q k)) (Some (length xs)) (get key_ord.ghosts.cmp last k)) →
      LastErrors (xs ++ LineOf (key_parts q) true ∷ []) next
  errors_more next q gets k from = ⊎_elim after here (cases_lt (length xs) from) ∙ ap (λ o. option_map_or (leb from) o false) (sym (gets k))
    where
      m : MarkParts
      m = LineOf (key_parts q) true

      old : Option ℕ
      old = get key_ord.ghosts.cmp last k

      after : length xs < from → struck_in (key_parts k) (drop from (xs ++ m ∷ [])) ≡ option_map_or (leb from) (cond (is_eq (key_ord.ghosts.cmp q k)) (Some (length xs)) old) false
      after gt = far (key_parts k) m xs from gt ∙ by (is_eq (key_ord.ghosts.cmp q k))
        where
          by : (b : Bool) → false ≡ option_map_or (leb from) (cond b (Some (length xs)) old) false
          by true = sym (lt-leb from (length xs) gt)
          by false = sym (far_before (key_parts k) xs from gt) ∙ was k from

      here : from ≤ length xs → struck_in (key_parts k) (drop from (xs ++ m ∷ [])) ≡ option_map_or (leb from) (cond (is_eq (key_ord.ghosts.cmp q k)) (Some (length xs)) old) false
      here le =
          near (key_parts k) m xs from le
          ∙ ap (λ b. struck_in (key_parts k) (drop from xs) || b) (sym (equal_keys q k))
          ∙ by (is_eq (key_ord.ghosts.cmp q k))
        where
          by : (b : Bool) → (struck_in (key_parts k) (drop from xs) || b) ≡ option_map_or (leb from) (cond b (Some (length xs)) old) false
          by true = or_right _ true refl ∙ sym (le-leb from (length xs) le)
          by false = or-false _ ∙ was k from

-- ---- The loop over the marks

error_is : (a : Action) → action_same.ghosts.eq a Error ≡ is_error a
error_is New = refl
error_is Modify = refl
error_is Error = refl
error_is Cancel = refl

not_accepted : (m : Mark) → ((q : Key) (a : Action) → m ≡ Accepted q a → ⊥) → (k : KeyParts) → strikes_at k (mark_parts m) ≡ false
not_accepted NoLine never k = refl
not_accepted Refused never k = refl
not_accepted (Accepted q a) never k = absurd (never q a refl)

module _ (ms : List Mark) (i : ℕ) (m : Mark) (last : BTreeMap Key ℕ) (h : i < length ms) (e : m ≡ get_or ms i m) (was : LastErrors (marks_in (take i ms)) last) where
  one_more : marks_in (take (i + 1) ms) ≡ marks_in (take i ms) ++ mark_parts m ∷ []
  one_more = map_more mark_parts ms i m h ∙ ap (λ x. marks_in (take i ms) ++ mark_parts x ∷ []) (sym e)

  so_far : length (marks_in (take i ms)) ≡ i
  so_far = length-map (take i ms) mark_parts ∙ length-take-le i ms (omega (arith, h))

  no_error : ((k : KeyParts) → strikes_at k (mark_parts m) ≡ false) → LastErrors (marks_in (take (i + 1) ms)) last
  no_error none = subst (λ xs. LastErrors xs last) (sym one_more) (errors_same (marks_in (take i ms)) last was (mark_parts m) none)

  pub no_line : ((q : Key) (a : Action) → m ≡ Accepted q a → ⊥) → LastErrors (marks_in (take (i + 1) ms)) last
  no_line never = no_error (not_accepted m never)

  module _ (q : Key) (a : Action) (is : m ≡ Accepted q a) where
    pub other_line : false ≡ action_same.ghosts.eq a Error → LastErrors (marks_in (take (i + 1) ms)) last
    other_line f = no_error (λ k. ap (λ x. strikes_at k (mark_parts x)) is ∙ ap (λ b. b && same_key (key_parts q) k) (sym (error_is a) ∙ sym f))

    pub error_line : (next : BTreeMap Key ℕ) → true ≡ action_same.ghosts.eq a Error → ((k : Key) → get key_ord.ghosts.cmp next k ≡ cond (is_eq (key_ord.ghosts.cmp q k)) (Some i) (get key_ord.ghosts.cmp last k)) →
        LastErrors (marks_in (take (i + 1) ms)) next
    error_line next t gets =
        let here : mark_parts m ≡ LineOf (key_parts q) true = ap mark_parts is ∙ ap (LineOf (key_parts q)) (sym (error_is a) ∙ sym t) in
        subst (λ xs. LastErrors xs next) (sym (one_more ∙ ap (λ x. marks_in (take i ms) ++ x ∷ []) here))
        (errors_more (marks_in (take i ms)) last was next q (λ k. gets k ∙ ap (λ n. cond (is_eq (key_ord.ghosts.cmp q k)) (Some n) (get key_ord.ghosts.cmp last k)) (sym so_far)))
