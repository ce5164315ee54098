-- What look-ups in lists of lives become when one life changes.
use Rattle.std.proofs.Common.{◌≡◌, ℕ, suc, ◌+◌, ◌≤◌, Bool, true, false, cond, [], ◌∷◌, length, Some, None, Option, sym, refl, ap, ◌∙◌, ⊎_elim, arith}
use Rattle.std.proofs.lemmas.Bool.{cond-true, cond_both, cases_Bool}
use Rattle.std.specs.Option.{option_map}
use Rattle.life.specs.Parts.{KeyParts, LifeParts}
use Rattle.life.specs.Keys.{same_key}
use Rattle.life.proofs.KeyOrder.{parts_eq, parts_same}
use Rattle.life.specs.Lives.{Pair, Lives, look, Unique, Same, altered, erase}
use Rattle.life.proofs.ByKey as by_key

pub same_turned : (k q : KeyParts) → same_key k q ≡ false → same_key q k ≡ false
same_turned k q h = grind (arith, h, parts_eq q k, parts_same q)

-- ---- Look-ups

-- what stands at each key after an `erase`
pub look_erase : (j k : KeyParts) (ps : Lives) → look j (erase k ps) ≡ cond (same_key j k) None (look j ps)
look_erase = by_key.look_erase parts_eq

-- and after a life is put in
pub look_put : (j k : KeyParts) (l : LifeParts) (ps : Lives) → look j ((k, l) ∷ erase k ps) ≡ cond (same_key j k) (Some l) (look j ps)
look_put = by_key.look_put parts_eq

pub unique_parts : (p : Pair) (ps : Lives) → Unique (p ∷ ps) → (look p.0 ps ≡ None) × Unique ps
unique_parts = by_key.unique_parts parts_eq

pub unique_from : (p : Pair) (ps : Lives) → look p.0 ps ≡ None → Unique ps → Unique (p ∷ ps)
unique_from = by_key.unique_from parts_eq

pub unique_erase : (k : KeyParts) (ps : Lives) → Unique ps → Unique (erase k ps)
unique_erase = by_key.unique_erase parts_eq

pub same_erase : (k : KeyParts) (ps qs : Lives) → Same ps qs → Same (erase k ps) (erase k qs)
same_erase = by_key.same_erase parts_eq

-- no key stands twice after a life is put in
pub unique_put : (k : KeyParts) (l : LifeParts) (ps : Lives) → Unique ps → Unique ((k, l) ∷ erase k ps)
unique_put = by_key.unique_put parts_eq

-- a life put into two lists with the same look-ups
pub same_put : (k : KeyParts) (l : LifeParts) (ps qs : Lives) → Same ps qs → Same ((k, l) ∷ erase k ps) ((k, l) ∷ erase k qs)
same_put = by_key.same_put parts_eq

-- what is left of two lists when the first pair of one is taken out of both
pub same_rest : (p : Pair) (ps qs : Lives) → Unique (p ∷ ps) → Same (p ∷ ps) qs → Same ps (erase p.0 qs)
same_rest = by_key.same_rest parts_eq

-- ---- A life altered where it stands

pub look_altered : (k : KeyParts) (f : LifeParts → LifeParts) (ps : Lives) → look k (altered k f ps) ≡ option_map f (look k ps)
look_altered k f [] = refl
look_altered k f (p ∷ ps) = grind (arith, look_altered k f ps)

pub look_apart : (k q : KeyParts) (f : LifeParts → LifeParts) (ps : Lives) → same_key k q ≡ false → look q (altered k f ps) ≡ look q ps
look_apart k q f [] h = refl
look_apart k q f (p ∷ ps) h = grind (arith, look_apart k q f ps h, parts_eq q p.0)

altered_none : (k q : KeyParts) (f : LifeParts → LifeParts) (ps : Lives) → look q ps ≡ None → look q (altered k f ps) ≡ None
altered_none k q f [] h = refl
altered_none k q f (p ∷ ps) h = grind (arith, h, altered_none k q f ps)

pub unique_altered : (k : KeyParts) (f : LifeParts → LifeParts) (ps : Lives) → Unique ps → Unique (altered k f ps)
unique_altered k f [] u = refl
unique_altered k f (p ∷ ps) u =
    let q = unique_parts p ps u in
    unique_from (p.0, cond (same_key k p.0) (f p.1) p.1) (altered k f ps) (altered_none k p.0 f ps q.0) (unique_altered k f ps q.1)

pub length_altered : (k : KeyParts) (f : LifeParts → LifeParts) (ps : Lives) → length (altered k f ps) ≡ length ps
length_altered k f [] = refl
length_altered k f (p ∷ ps) = ap suc (length_altered k f ps)

pub length_erase : (k : KeyParts) (ps : Lives) → length (erase k ps) ≤ length ps
length_erase k [] = omega arith
length_erase k (p ∷ ps) =
    let ih = length_erase k ps in
    cond_both (same_key k p.0) (erase k ps) (p ∷ erase k ps) (λ qs. length qs ≤ suc (length ps)) (λ _. omega arith) (λ _. omega arith)

cond_apart : {X : Type 0} (t : Bool) (x y z : X) → (t ≡ true → z ≡ x) → (t ≡ false → z ≡ y) → z ≡ cond t x y
cond_apart true x y z f g = f refl
cond_apart false x y z f g = g refl

-- what stands at each key when one life is altered
pub look_altered_at : (j k : KeyParts) (f : LifeParts → LifeParts) (ps : Lives) →
    look j (altered k f ps) ≡ cond (same_key j k) (option_map f (look k ps)) (look j ps)
look_altered_at j k f ps =
    cond_apart (same_key j k) _ _ _
    (λ e. ap (λ x. look x (altered k f ps)) (parts_eq j k e) ∙ look_altered k f ps)
    (λ e. look_apart k j f ps (same_turned j k e))

-- ---- How many lives there are

abbrev one_if : Option LifeParts → ℕ
one_if None = 0
one_if (Some l) = 1

length_split : (k : KeyParts) (ps : Lives) → Unique ps → length ps ≡ one_if (look k ps) + length (erase k ps)
length_split k [] u = omega arith
length_split k (p ∷ ps) u =
    let once = unique_parts p ps u in
    let rest = length_split k ps once.1 in
    ⊎_elim
    (λ e.
    let gone : look k ps ≡ None = ap (λ x. look x ps) (parts_eq k p.0 e) ∙ once.0 in
    let less : length ps ≡ 0 + length (erase k ps) = rest ∙ ap (λ o. one_if o + length (erase k ps)) gone in
    let more : suc (length ps) ≡ 1 + length (erase k ps) = omega (arith, less) in
    more ∙ sym (ap (λ b. one_if (cond b (Some p.1) (look k ps)) + length (cond b (erase k ps) (p ∷ erase k ps))) e))
    (λ e.
    let more : suc (length ps) ≡ one_if (look k ps) + suc (length (erase k ps)) = omega (arith, rest) in
    more ∙ sym (ap (λ b. one_if (cond b (Some p.1) (look k ps)) + length (cond b (erase k ps) (p ∷ erase k ps))) e))
    (cases_Bool (same_key k p.0))

-- lists with the same look-ups and no key twice are as long as each other
pub length_same : (ps qs : Lives) → Unique ps → Unique qs → Same ps qs → length ps ≡ length qs
length_same [] [] u w h = refl
length_same [] (q ∷ qs) u w h =
    let e : None ≡ Some q.1 = h q.0 ∙ cond-true _ _ _ (parts_same q.0) in
    let z : ◌≡◌ {A = ℕ} 0 1 = cc in
    absurd (omega arith)
length_same (p ∷ ps) qs u w h =
    let there : look p.0 qs ≡ Some p.1 = sym (h p.0) ∙ cond-true _ _ _ (parts_same p.0) in
    let rest = length_same ps (erase p.0 qs) (unique_parts p ps u).1 (unique_erase p.0 qs w) (same_rest p ps qs u h) in
    let split : length qs ≡ 1 + length (erase p.0 qs) = length_split p.0 qs w ∙ ap (λ o. one_if o + length (erase p.0 qs)) there in
    omega (arith, rest, split)
