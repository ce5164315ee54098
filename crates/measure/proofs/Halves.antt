-- The total of two measures side by side is the two totals.
use Rattle.std.proofs.Common.{◌≡◌, [], ◌∷◌, refl, ap, ◌∙◌}
use Rattle.life.specs.declared.life.State.{State}
use Rattle.life.specs.declared.life.State.TheVariants.{Open, Cancelled}
use Rattle.life.specs.Parts.{KeyParts, LifeParts}
use Rattle.measure.specs.Boths.{both, both_joined, both_weight}
use Rattle.life.specs.Lives.{Lives}
use Rattle.measure.specs.Totals.{while_open, share, total_of}

module _ {A B : Type 0} (p : A) (f : A → A → A) (v : KeyParts → LifeParts → A) (q : B) (g : B → B → B) (w : KeyParts → LifeParts → B) where
  halved : (s : State) (x : A) (y : B) → while_open (both p q) s (both x y) ≡ both (while_open p s x) (while_open q s y)
  halved Open x y = refl
  halved Cancelled x y = refl

  pub halves : (ps : Lives) → total_of (both p q) (both_joined f g) (both_weight v w) ps ≡ both (total_of p f v ps) (total_of q g w ps)
  halves [] = refl
  halves (e ∷ ps) =
      let k = e.0 in
      let l = e.1 in
      ap (λ s. both_joined f g s (total_of (both p q) (both_joined f g) (both_weight v w) ps)) (halved l.in_state (v k l) (w k l))
      ∙ ap (both_joined f g (both (share p v k l) (share q w k l))) (halves ps)
