use Rattle.std.proofs.Common.{◌≡◌, Some, None, sym, refl, ◌∙◌}
use Rattle.life.proofs.Lookups.{same_absent}
use Rattle.chained.specs.Table.{at}
use Rattle.chained.proofs.Facts.{opened, sound_at, lookup_none}
use Rattle.chained.proofs.Chains.{lookup_some}
use Rattle.chained.proofs.table.Table.remove.Goals as goal

pub take_out-requires-clause-sound : goal.take_out-requires-clause-sound
take_out-requires-clause-sound c = sound_at _ _ _ _ (opened c.args.self.now.held) c.in-Some.ensures

pub returns-in_default-clause-drops : goal.returns-in_default-clause-drops
returns-in_default-clause-drops c =
    record {
      held = c.args.self.now.held;
      room = refl;
      holds = same_absent _ _ (lookup_none _ _ _ (c.in_default.ensures.missed refl));
      leaves = record { size = refl; spare = record { keys = λ m _. refl; lives = λ m _. refl }; unwritten = λ _. (refl, refl) };
    }

pub returns-in-Some-clause-absent : goal.returns-in-Some-clause-absent
returns-in-Some-clause-absent c = λ e.
    let s = c.args.self.now.slots.now in
    let t = c.in-Some.ensures.0 in
    let o = c.in-Some.ensures.1 in
    let h = sound_at _ _ _ _ (opened c.args.self.now.held) c.in-Some.ensures in
    let f : None ≡ Some (at s c.in-Some.i).life = sym e ∙ lookup_some _ _ _ _ h.apart t o.within (o.held t) in
    absurd cc
