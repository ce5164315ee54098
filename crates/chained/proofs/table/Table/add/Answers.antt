use Rattle.std.proofs.Common.{Ok, ◌+◌, ◌<◌, length, refl, sym, ap, ◌∙◌, arith, true≢false}
use Rattle.std.proofs.lemmas.Bool.{or_right, lt-ltb}
use Rattle.life.specs.Pairs.{look}
use Rattle.life.proofs.Lookups.{look_put}
use Rattle.chained.specs.declared.slot.Slot.{Slot}
use Rattle.chained.specs.Table.{pairs_of, room_of, PutInto}
use Rattle.chained.proofs.Facts.{opened, sound_with, at_read, held, whole, room_to, room_small, pairs_length}
use Rattle.chained.proofs.Links.{rewired_to, added, added_pairs}
use Rattle.chained.proofs.table.Table.add.Goals as goal
use Rattle.chained.proofs.table.Table.add.Goals.{After-set_link-2}

pub set_link-requires-clause-small : goal.set_link-requires-clause-small
set_link-requires-clause-small c =
    let s = c.args.self.now.slots.now in
    let b = c.chain-b.ensures in
    let sound = sound_with _ _ (opened c.args.self.now.held) c.requires.room in
    let here = ap (λ (x : Slot). x.head) (at_read s c.chain-b.result c.index-slots-b.result b.high) in
    omega (arith, here, (sound.linked.heads _ b.low b.high).below, sound.fits, sound.small)

put_in : (c : After-set_link-2)
    → PutInto c.args.self.now.slots.now c.args.self.now.count c.set_link-2.new.slots (c.args.self.now.count + 1) c.args.key.now c.args.life (Ok tt)
put_in c =
    let s = c.args.self.now.slots.now in
    let n = c.args.self.now.count in
    let sound = sound_with _ _ (opened c.args.self.now.held) c.requires.room in
    let b = c.chain-b.ensures in
    let room : n + 1 < length s = omega (arith, room_small s sound.small, c.requires.room) in
    let one = rewired_to c.set_link.ensures (ap (λ (x : Slot). x.head) (at_read s _ _ b.high)) in
    let fresh = c.requires.fresh.missed refl in
    let size = c.set_link-2.ensures.size ∙ c.set_pair.ensures.size ∙ c.set_link.ensures.size in
    record {
      held = held (whole _ _ (added _ _ _ _ _ _ _ _ sound room fresh b.is b.low b.high one c.set_pair.ensures c.set_link-2.ensures));
      room = room_to _ _ size;
      fits = sym (or_right _ _ (lt-ltb (length (pairs_of s n)) (room_of s) (omega (arith, pairs_length s n, c.requires.room))));
      holds = λ q. ap (look q) (added_pairs _ _ _ _ _ _ _ _ sound room fresh b.is b.low b.high one c.set_pair.ensures c.set_link-2.ensures) ∙ sym (look_put q _ _ _);
      leaves = record {
        size = size;
        spare = record {
          keys = λ m f. c.set_link-2.ensures.keys m ∙ c.set_pair.ensures.key_else m (λ e. omega (arith, f (omega arith))) ∙ c.set_link.ensures.keys m;
          lives = λ m f. c.set_link-2.ensures.lives m ∙ c.set_pair.ensures.life_else m (λ e. omega (arith, f (omega arith))) ∙ c.set_link.ensures.lives m;
        };
        unwritten = λ e. absurd (true≢false e);
      };
    }

pub invariant_of-self : goal.invariant_of-self
invariant_of-self c = record { held = (put_in (goal.at.invariant_of-self c).After-set_link-2).held }

pub returns : goal.returns
returns c = put_in (goal.at.returns c).After-set_link-2
