-- What the laws of joining give of totals: one life more, less or altered; and that the order of a list does not count.
use Rattle.std.proofs.Common.{◌≡◌, Bool, cond, [], ◌∷◌, ◌++◌, Some, None, Option, sym, refl, ap, ◌∙◌, subst, ⊎_elim}
use Rattle.std.proofs.lemmas.Bool.{cond-true, cases_Bool}
use Rattle.std.proofs.lemmas.Option.{none-some}
use Rattle.std.proofs.lemmas.Iterator.Adapters.{option_map_id}
use Rattle.std.specs.Option.{option_map}
use Rattle.life.specs.Parts.{KeyParts, LifeParts}
use Rattle.measure.specs.Group.{Group}
use Rattle.life.specs.Keys.{same_key}
use Rattle.life.specs.Lives.{Lives, look, Unique, Same, altered, erase}
use Rattle.measure.specs.Totals.{share, total_of}
use Rattle.life.proofs.KeyOrder.{parts_same, parts_eq}
use Rattle.life.proofs.ByKey.{cond_same}
use Rattle.life.proofs.Lives.{unique_parts, unique_erase, same_rest}

altered_same : (k : KeyParts) (ps : Lives) → altered k (λ l. l) ps ≡ ps
altered_same k [] = refl
altered_same k (p ∷ ps) = λ i. (p.0, cond_same (same_key k p.0) p.1 i) ∷ altered_same k ps i

module _ {V : Type 0} {nil : V} {joined : V → V → V} {inverse : V → V} (G : Group nil joined inverse) where
  pub unit_right : (x : V) → joined x nil ≡ x
  unit_right x = G.comm x nil ∙ G.unit x

  -- the first of three goes behind the second
  past : (x y z : V) → joined x (joined y z) ≡ joined y (joined x z)
  past x y z = sym (G.assoc x y z) ∙ ap (λ t. joined t z) (G.comm x y) ∙ G.assoc y x z

  -- what was joined is taken out again by its inverse: the one place where that law is used
  undone : (x y : V) → joined (joined x y) (inverse y) ≡ x
  undone x y = G.assoc x y (inverse y) ∙ ap (joined x) (G.comm y (inverse y) ∙ G.undo y) ∙ unit_right x

  pub nothing_out : (x : V) → joined x (inverse nil) ≡ x
  nothing_out x = ap (λ t. joined t (inverse nil)) (sym (unit_right x)) ∙ undone x nil

  module _ (weight : KeyParts → LifeParts → V) where
    abbrev total : Lives → V
    total = total_of nil joined weight

    -- what a key brings
    abbrev value : KeyParts → Option LifeParts → V
    value k None = nil
    value k (Some l) = share nil weight k l

    -- a life comes, wherever it stands
    pub total_come : (ps : Lives) (k : KeyParts) (l : LifeParts) (qs : Lives) →
        joined (total (ps ++ qs)) (share nil weight k l) ≡ total (ps ++ (k, l) ∷ qs)
    total_come [] k l qs = G.comm _ _
    total_come (p ∷ ps) k l qs = G.assoc _ _ _ ∙ ap (joined (share nil weight p.0 p.1)) (total_come ps k l qs)

    -- the life of a key altered: its new share, and all others
    total_altered : (k : KeyParts) (f : LifeParts → LifeParts) (ps : Lives) → Unique ps →
        total (altered k f ps) ≡ joined (value k (option_map f (look k ps))) (total (erase k ps))
    total_altered k f [] u = sym (G.unit nil)
    total_altered k f (p ∷ ps) u =
        let once = unique_parts p ps u in
        let rest : total (altered k f ps) ≡ joined (value k (option_map f (look k ps))) (total (erase k ps)) = total_altered k f ps once.1 in
        let Goal : Bool → Type 0 = λ b.
        joined (share nil weight p.0 (cond b (f p.1) p.1)) (total (altered k f ps))
        ≡ joined (value k (option_map f (cond b (Some p.1) (look k ps)))) (total (cond b (erase k ps) (p ∷ erase k ps))) in
        ⊎_elim
        (λ e.
        let here : k ≡ p.0 = parts_eq k p.0 e in
        let gone : look k ps ≡ None = ap (λ x. look x ps) here ∙ once.0 in
        subst Goal (sym e)
        (ap (λ x. joined (share nil weight x (f p.1)) (total (altered k f ps))) (sym here)
        ∙ ap (joined (share nil weight k (f p.1)))
        (rest ∙ ap (λ o. joined (value k (option_map f o)) (total (erase k ps))) gone ∙ G.unit _)))
        (λ e. subst Goal (sym e) (ap (joined (share nil weight p.0 p.1)) rest ∙ past _ _ _))
        (cases_Bool (same_key k p.0))

    -- the share of a key, and all others
    total_split : (k : KeyParts) (ps : Lives) → Unique ps → total ps ≡ joined (value k (look k ps)) (total (erase k ps))
    total_split k ps u =
        ap total (sym (altered_same k ps))
        ∙ total_altered k (λ l. l) ps u
        ∙ ap (λ o. joined (value k o) (total (erase k ps))) (option_map_id (look k ps))

    -- the life of a key goes
    pub total_go : (k : KeyParts) (l : LifeParts) (ps : Lives) → Unique ps → look k ps ≡ Some l →
        joined (total ps) (inverse (share nil weight k l)) ≡ total (erase k ps)
    total_go k l ps u e =
        ap (λ t. joined t (inverse (share nil weight k l)))
        (total_split k ps u ∙ ap (λ o. joined (value k o) (total (erase k ps))) e ∙ G.comm _ _)
        ∙ undone _ _

    -- the life of a key is altered
    pub total_replace : (k : KeyParts) (old new : LifeParts) (f : LifeParts → LifeParts) (ps : Lives) → Unique ps → look k ps ≡ Some old → f old ≡ new →
        joined (joined (total ps) (inverse (share nil weight k old))) (share nil weight k new) ≡ total (altered k f ps)
    total_replace k old new f ps u e is =
        ap (λ t. joined t (share nil weight k new)) (total_go k old ps u e)
        ∙ G.comm _ _
        ∙ ap (λ o. joined (value k o) (total (erase k ps))) (ap Some (sym is) ∙ ap (option_map f) (sym e))
        ∙ sym (total_altered k f ps u)

    -- the order of the list does not count
    pub total_same : (ps qs : Lives) → Unique ps → Unique qs → Same ps qs → total ps ≡ total qs
    total_same [] [] u w h = refl
    total_same [] (q ∷ qs) u w h = absurd (none-some q.1 (h q.0 ∙ cond-true _ _ _ (parts_same q.0)))
    total_same (p ∷ ps) qs u w h =
        let there : look p.0 qs ≡ Some p.1 = sym (h p.0) ∙ cond-true _ _ _ (parts_same p.0) in
        let rest = total_same ps (erase p.0 qs) (unique_parts p ps u).1 (unique_erase p.0 qs w) (same_rest p ps qs u h) in
        ap (joined (share nil weight p.0 p.1)) rest
        ∙ sym (total_split p.0 qs w ∙ ap (λ o. joined (value p.0 o) (total (erase p.0 qs))) there)
