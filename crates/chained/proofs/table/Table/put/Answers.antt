use Rattle.std.proofs.Common.{◌≤◌, length, is_some, sym, refl, ap, ◌∙◌, arith}
use Rattle.std.proofs.lemmas.Bool.{true≢false, or_left, or_from, le-ltb, leb-true}
use Rattle.life.proofs.Lookups.{look_put}
use Rattle.chained.specs.Table.{pairs_of, room_of}
use Rattle.chained.proofs.Facts.{opened, held, whole, sound_at, room_to, lookup_none, pairs_length}
use Rattle.chained.proofs.Chains.{lookup_some}
use Rattle.chained.proofs.Moves.{held_sound, held_becomes}
use Rattle.chained.proofs.table.Table.put.Goals as goal

pub invariant_of-self : goal.invariant_of-self
invariant_of-self c =
    let t = c.in-Some.ensures.0 in
    let o = c.in-Some.ensures.1 in
    let h = sound_at _ _ _ _ (opened c.args.self.now.held) c.in-Some.ensures in
    record { held = held (whole _ _ (held_sound _ _ _ _ _ _ h t o.within (o.held t) c.set_pair.ensures)) }

pub returns-in-Some-clause-puts : goal.returns-in-Some-clause-puts
returns-in-Some-clause-puts c =
    let t = c.in-Some.ensures.0 in
    let o = c.in-Some.ensures.1 in
    let h = sound_at _ _ _ _ (opened c.args.self.now.held) c.in-Some.ensures in
    record {
      held = held (whole _ _ (held_sound _ _ _ _ _ _ h t o.within (o.held t) c.set_pair.ensures));
      room = room_to _ _ c.set_pair.ensures.size;
      fits = sym (or_left _ _ (ap is_some (lookup_some _ _ _ _ h.apart t o.within (o.held t))));
      holds = λ q. held_becomes _ _ _ _ _ _ h t o.within (o.held t) c.set_pair.ensures q ∙ sym (look_put q _ _ _);
      leaves = record {
        size = c.set_pair.ensures.size;
        spare = record {
          keys = λ m f. c.set_pair.ensures.key_else m (λ e. omega (arith, f (omega arith), o.within));
          lives = λ m f. c.set_pair.ensures.life_else m (λ e. omega (arith, f (omega arith), o.within));
        };
        unwritten = λ e. absurd (true≢false e);
      };
    }

pub returns-then-is_full-clause-puts : goal.returns-then-is_full-clause-puts
returns-then-is_full-clause-puts c =
    let s = c.args.self.now.slots.now in
    let n = c.args.self.now.count in
    let full : room_of s ≤ n = leb-true (room_of s) n (sym c.if-is_full.ensures) in
    record {
      held = c.args.self.now.held;
      room = refl;
      fits = sym (or_from _ _ (ap is_some (lookup_none _ _ _ (c.in_default.ensures.missed refl))) (le-ltb (length (pairs_of s n)) (room_of s) (omega (arith, pairs_length s n))));
      holds = λ q. refl;
      leaves = record { size = refl; spare = record { keys = λ m _. refl; lives = λ m _. refl }; unwritten = λ _. (refl, refl) };
    }
