use Rattle.std.proofs.Common.{◌≡◌, Some, refl, ap, ◌∙◌, subst, rules}
use Rattle.life.specs.Lives.{plain, look, Same, erase}
use Rattle.life.specs.Parts.{key_parts, life_parts}
use Rattle.life.proofs.Lives.{unique_erase}
use Rattle.life.proofs.Plain.{plain_unique, plain_removed}
use Rattle.register.specs.Held.{Held}
use Rattle.register.proofs.Changes.{total_held}
use Rattle.register.proofs.register.Register.strike.Goals as goal

pub invariant_of-self : goal.invariant_of-self
invariant_of-self g c =
    let m = g.M.Measure in
    let s = g.S.Store in
    let key = c.args.key.now in
    let k = key_parts key in
    let xs = s.pairs c.self.inside.store.now in
    let xs' = s.pairs c.remove.new.self in
    let u = plain_unique xs (s.unique c.self.inside.store.now) in
    let found : look k (plain xs) ≡ Some (life_parts c.args.old.now) = ap (λ (h : Held _). look k h.lives) c.self.view_is ∙ c.requires in
    let gone : Same (plain xs') (erase k (plain xs)) = plain_removed key xs xs' (plain xs) (λ j. refl) c.remove.ensures.holds in
    total_held m.laws m.weight xs' (erase k (plain xs)) c.go.new.sum (s.unique c.remove.new.self) (unique_erase k (plain xs) u) gone
    (c.go.ensures.sums (plain xs) u found c.self.invariant)

pub returns-clause-holds : goal.returns-clause-holds
returns-clause-holds g c =
    let s = g.S.Store in
    let key = c.args.key.now in
    let xs = s.pairs c.self.inside.store.now in
    subst (λ (h : Held _). Same (plain (s.pairs c.remove.new.self)) (erase (key_parts key) h.lives)) c.self.view_is
    (plain_removed key xs (s.pairs c.remove.new.self) (plain xs) (λ j. refl) c.remove.ensures.holds)

pub returns-clause-kept : goal.returns-clause-kept
returns-clause-kept g c = record { room = search rules; sums = invariant_of-self g c }
