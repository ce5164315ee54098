use Rattle.std.proofs.Common.{◌≡◌, true, false, cond, [], ◌∷◌, Some, None, sym, refl, ap, ◌∙◌, rules}
use Rattle.life.specs.Lives.{plain, look, Same}
use Rattle.life.specs.Parts.{KeyParts, LifeParts, key_parts, life_parts}
use Rattle.life.proofs.Lives.{unique_from}
use Rattle.life.proofs.Plain.{plain_unique, plain_same, plain_entered}
use Rattle.register.specs.Held.{Held}
use Rattle.register.proofs.Changes.{full_unless, total_held}
use Rattle.register.proofs.register.Register.enter.Goals as goal

pub invariant_of-self : goal.invariant_of-self
invariant_of-self g c =
    let m = g.M.Measure in
    let s = g.S.Store in
    let key = c.args.key.now in
    let pair : KeyParts × LifeParts = (key_parts key, life_parts c.args.life) in
    let was = c.self.inside.store.now in
    let xs = s.pairs was in
    let xs' = s.pairs c.put.new.self in
    let new : look (key_parts key) (plain xs) ≡ None = ap (λ (h : Held _). look (key_parts key) h.lives) c.self.view_is ∙ c.requires in
    let u = unique_from pair (plain xs) new (plain_unique xs (s.unique was)) in
    let entered : Same (plain xs') (pair ∷ plain xs) = plain_entered key xs xs' (plain xs) (λ j. refl) c.args.life c.in-Ok.ensures.holds in
    total_held m.laws m.weight xs' (pair ∷ plain xs) c.come.new.sum (s.unique c.put.new.self) u entered (c.come.ensures.sums [] (plain xs) c.self.invariant)

pub invariant_of-self-in-Err : goal.invariant_of-self-in-Err
invariant_of-self-in-Err g c =
    let m = g.M.Measure in
    let s = g.S.Store in
    let was = c.self.inside.store.now in
    let xs = s.pairs was in
    let xs' = s.pairs c.put.new.self in
    total_held m.laws m.weight xs' (plain xs) c.self.inside.total (s.unique c.put.new.self) (plain_unique xs (s.unique was)) (plain_same xs' xs c.in-Err.ensures.holds) c.self.invariant

pub returns-in-Ok-clause-answers : goal.returns-in-Ok-clause-answers
returns-in-Ok-clause-answers g c =
    let s = g.S.Store in
    let key = c.args.key.now in
    let was = c.self.inside.store.now in
    let new : look (key_parts key) (plain (s.pairs was)) ≡ None = ap (λ (h : Held _). look (key_parts key) h.lives) c.self.view_is ∙ c.requires in
    let room = full_unless (s.room was) key (s.pairs was) true new c.in-Ok.ensures.fits in
    rw (← c.self.view_is) (ap (λ b. cond b (Some (47, 0)) None) (sym room))

pub returns-in-Ok-clause-holds : goal.returns-in-Ok-clause-holds
returns-in-Ok-clause-holds g c =
    let s = g.S.Store in
    let key = c.args.key.now in
    let pair : KeyParts × LifeParts = (key_parts key, life_parts c.args.life) in
    let was = c.self.inside.store.now in
    let xs = s.pairs was in
    let new : look (key_parts key) (plain xs) ≡ None = ap (λ (h : Held _). look (key_parts key) h.lives) c.self.view_is ∙ c.requires in
    let room = full_unless (s.room was) key xs true new c.in-Ok.ensures.fits in
    let entered = plain_entered key xs (s.pairs c.put.new.self) (plain xs) (λ j. refl) c.args.life c.in-Ok.ensures.holds in
    rw (← c.self.view_is) (λ j. entered j ∙ ap (λ b. look j (cond b (plain xs) (pair ∷ plain xs))) (sym room))

pub returns-in-Ok-clause-kept : goal.returns-in-Ok-clause-kept
returns-in-Ok-clause-kept g c = record { room = search rules; sums = invariant_of-self g c }

pub returns-in-Err-clause-holds : goal.returns-in-Err-clause-holds
returns-in-Err-clause-holds g c =
    let s = g.S.Store in
    let key = c.args.key.now in
    let pair : KeyParts × LifeParts = (key_parts key, life_parts c.args.life) in
    let was = c.self.inside.store.now in
    let xs = s.pairs was in
    let new : look (key_parts key) (plain xs) ≡ None = ap (λ (h : Held _). look (key_parts key) h.lives) c.self.view_is ∙ c.requires in
    let full = full_unless (s.room was) key xs false new c.in-Err.ensures.fits in
    let same = plain_same (s.pairs c.put.new.self) xs c.in-Err.ensures.holds in
    rw (← c.self.view_is) (λ j. same j ∙ ap (λ b. look j (cond b (plain xs) (pair ∷ plain xs))) (sym full))

pub returns-in-Err-clause-kept : goal.returns-in-Err-clause-kept
returns-in-Err-clause-kept g c = record { room = search rules; sums = invariant_of-self-in-Err g c }
