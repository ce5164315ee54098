-- Look-ups in lists of keys with a value each, by a test under which only equal keys are one.
use Rattle.std.proofs.Common.{◌≡◌, Bool, true, false, cond, not, List, [], ◌∷◌, is_some, Some, None, Option, sym, refl, ap, ◌∙◌, subst, ⊎_elim, true≢false}
use Rattle.std.proofs.lemmas.Bool.{and_from, and_parts, cond-true, cond-false, cond_both, cases_Bool}
use Rattle.life.specs.ByKey as by_key

-- a choice between two that are one
pub cond_same : {A : Type 0} (b : Bool) (x : A) → cond b x x ≡ x
cond_same true x = refl
cond_same false x = refl

none_from : {V : Type 0} (o : Option V) → not (is_some o) ≡ true → o ≡ None
none_from None e = refl
none_from (Some l) e = absurd (true≢false (sym e))

module _ {K V : Type 0} {same : K → K → Bool} (equal : (a b : K) → same a b ≡ true → a ≡ b) where
  abbrev look : K → List (K × V) → Option V
  look = by_key.look same

  abbrev erase : K → List (K × V) → List (K × V)
  erase = by_key.erase same

  abbrev Unique : List (K × V) → Type 0
  Unique = by_key.Unique same

  abbrev Same : List (K × V) → List (K × V) → Type 0
  Same = by_key.Same same

  erase_same : (k : K) (ps : List (K × V)) → look k (erase k ps) ≡ None
  erase_same k [] = refl
  erase_same k (p ∷ ps) =
      cond_both (same k p.0) (erase k ps) (p ∷ erase k ps) (λ qs. look k qs ≡ None)
      (λ _. erase_same k ps)
      (λ e. cond-false _ _ _ e ∙ erase_same k ps)

  erase_other : (j k : K) → same j k ≡ false → (ps : List (K × V)) → look j (erase k ps) ≡ look j ps
  erase_other j k h [] = refl
  erase_other j k h (p ∷ ps) =
      cond_both (same k p.0) (erase k ps) (p ∷ erase k ps) (λ qs. look j qs ≡ look j (p ∷ ps))
      (λ e. erase_other j k h ps ∙ sym (cond-false _ _ _ (subst (λ x. same j x ≡ false) (equal k p.0 e) h)))
      (λ e. ap (cond (same j p.0) (Some p.1)) (erase_other j k h ps))

  -- what stands at each key after an `erase`
  pub look_erase : (j k : K) (ps : List (K × V)) → look j (erase k ps) ≡ cond (same j k) None (look j ps)
  look_erase j k ps =
      ⊎_elim
      (λ e. ap (λ x. look x (erase k ps)) (equal j k e) ∙ erase_same k ps ∙ sym (cond-true _ _ _ e))
      (λ e. erase_other j k e ps ∙ sym (cond-false _ _ _ e))
      (cases_Bool (same j k))

  -- and after a value is put in
  pub look_put : (j k : K) (v : V) (ps : List (K × V)) → look j ((k, v) ∷ erase k ps) ≡ cond (same j k) (Some v) (look j ps)
  look_put j k v ps =
      ⊎_elim
      (λ e. cond-true _ _ _ e ∙ sym (cond-true _ _ _ e))
      (λ e. cond-false _ _ _ e ∙ erase_other j k e ps ∙ sym (cond-false _ _ _ e))
      (cases_Bool (same j k))

  pub unique_parts : (p : K × V) (ps : List (K × V)) → Unique (p ∷ ps) → (look p.0 ps ≡ None) × Unique ps
  unique_parts p ps u = let q = and_parts (not (is_some (look p.0 ps))) (by_key.distinct same ps) u in (none_from (look p.0 ps) q.0, q.1)

  pub unique_from : (p : K × V) (ps : List (K × V)) → look p.0 ps ≡ None → Unique ps → Unique (p ∷ ps)
  unique_from p ps e u = and_from _ _ (ap (λ o. not (is_some o)) e) u

  pub unique_erase : (k : K) (ps : List (K × V)) → Unique ps → Unique (erase k ps)
  unique_erase k [] u = refl
  unique_erase k (p ∷ ps) u =
      let q = unique_parts p ps u in
      cond_both (same k p.0) (erase k ps) (p ∷ erase k ps) Unique
      (λ _. unique_erase k ps q.1)
      (λ _. unique_from p (erase k ps) (look_erase p.0 k ps ∙ ap (cond (same p.0 k) None) q.0 ∙ cond_same _ None) (unique_erase k ps q.1))

  -- no key stands twice after a value is put in
  pub unique_put : (k : K) (v : V) (ps : List (K × V)) → Unique ps → Unique ((k, v) ∷ erase k ps)
  unique_put k v ps u = unique_from (k, v) (erase k ps) (erase_same k ps) (unique_erase k ps u)

  pub same_erase : (k : K) (ps qs : List (K × V)) → Same ps qs → Same (erase k ps) (erase k qs)
  same_erase k ps qs h j = look_erase j k ps ∙ ap (cond (same j k) None) (h j) ∙ sym (look_erase j k qs)

  -- nothing to take out
  pub same_absent : (k : K) (ps : List (K × V)) → look k ps ≡ None → Same ps (erase k ps)
  same_absent k ps h j =
      ⊎_elim
      (λ e. ap (λ x. look x ps) (equal j k e) ∙ h ∙ sym (look_erase j k ps ∙ cond-true _ _ _ e))
      (λ e. sym (look_erase j k ps ∙ cond-false _ _ _ e))
      (cases_Bool (same j k))

  -- a value put into two lists with the same look-ups
  pub same_put : (k : K) (v : V) (ps qs : List (K × V)) → Same ps qs → Same ((k, v) ∷ erase k ps) ((k, v) ∷ erase k qs)
  same_put k v ps qs h j = look_put j k v ps ∙ ap (cond (same j k) (Some v)) (h j) ∙ sym (look_put j k v qs)

  -- what is left of two lists when the first pair of one is taken out of both
  pub same_rest : (p : K × V) (ps qs : List (K × V)) → Unique (p ∷ ps) → Same (p ∷ ps) qs → Same ps (erase p.0 qs)
  same_rest p ps qs u h j =
      ⊎_elim
      (λ e. ap (λ x. look x ps) (equal j p.0 e) ∙ (unique_parts p ps u).0 ∙ sym (look_erase j p.0 qs ∙ cond-true _ _ _ e))
      (λ e. sym (cond-false _ _ _ e) ∙ h j ∙ sym (look_erase j p.0 qs ∙ cond-false _ _ _ e))
      (cases_Bool (same j p.0))
