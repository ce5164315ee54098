use Rattle.std.proofs.Common.{◌≡◌, is_ok, Some, refl, ap, ◌∙◌, subst, rules}
use Rattle.life.specs.Lives.{plain, look, Same, altered}
use Rattle.life.specs.Parts.{LifeParts, key_parts, life_parts}
use Rattle.life.proofs.Lives.{unique_altered}
use Rattle.life.proofs.Plain.{plain_unique}
use Rattle.register.specs.Held.{Held}
use Rattle.register.proofs.Changes.{put_alters, total_held}
use Rattle.register.proofs.register.Register.alter.Goals as goal

pub invariant_of-self : goal.invariant_of-self
invariant_of-self g c =
    let m = g.M.Measure in
    let s = g.S.Store in
    let key = c.args.key.now in
    let k = key_parts key in
    let old = life_parts c.args.old.now in
    let was = c.self.inside.store.now in
    let xs = s.pairs was in
    let xs' = s.pairs c.put.new.self in
    let u = plain_unique xs (s.unique was) in
    let found : look k (plain xs) ≡ Some old = ap (λ (h : Held _). look k h.lives) c.self.view_is ∙ c.requires in
    let f : LifeParts → LifeParts = λ l. life_parts c.args.new in
    let alters : Same (plain xs') (altered k f (plain xs)) = put_alters (s.room was) key old c.args.new xs xs' (is_ok c.put.result) found c.put.ensures.fits c.put.ensures.holds f refl in
    total_held m.laws m.weight xs' (altered k f (plain xs)) c.replace.new.sum (s.unique c.put.new.self) (unique_altered k f (plain xs) u) alters
    (c.replace.ensures.sums (plain xs) f u found refl c.self.invariant)

pub returns-clause-holds : goal.returns-clause-holds
returns-clause-holds g c =
    let s = g.S.Store in
    let key = c.args.key.now in
    let k = key_parts key in
    let old = life_parts c.args.old.now in
    let was = c.self.inside.store.now in
    let found : look k (plain (s.pairs was)) ≡ Some old = ap (λ (h : Held _). look k h.lives) c.self.view_is ∙ c.requires in
    λ f is.
    subst (λ (h : Held _). Same (plain (s.pairs c.put.new.self)) (altered k f h.lives)) c.self.view_is
    (put_alters (s.room was) key old c.args.new (s.pairs was) (s.pairs c.put.new.self) (is_ok c.put.result) found c.put.ensures.fits c.put.ensures.holds f is)

pub returns-clause-kept : goal.returns-clause-kept
returns-clause-kept g c = record { room = search rules; sums = invariant_of-self g c }
