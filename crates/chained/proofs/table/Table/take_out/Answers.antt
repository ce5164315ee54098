use Rattle.std.proofs.Common.{◌-◌, ◌<◌, length, rules, sym, ap, ◌∙◌, arith}
use Rattle.chained.specs.declared.slot.Slot.{Slot}
use Rattle.chained.specs.Table.{at, chain_of, chain_at, Spare, TakenFrom}
use Rattle.chained.proofs.Facts.{at_read}
use Rattle.chained.proofs.Links.{paired_to}
use Rattle.chained.proofs.Moves.{last_sound, last_becomes, k3, taken_sound, taken_becomes, drops}
use Rattle.chained.proofs.table.Table.take_out.Goals as goal
use Rattle.chained.proofs.table.Table.take_out.Goals.{Then-i-count, After-link_in}

pub link_in-requires-clause-chain : goal.link_in-requires-clause-chain
link_in-requires-clause-chain c =
    let s = c.args.self.now.slots.now in
    let e = c.unlink.ensures in
    let k = e.linked (chain_at s) c.requires.sound.linked (sym (c.chain-b.ensures.is ∙ ap (λ (x : Slot). chain_of x.key (length s)) (at_read s _ _ (omega (arith, c.requires.sound.fits))))) in
    let last = c.index-slots-count.is ∙ at_read c.unlink.new.slots _ _ (omega (arith, c.requires.sound.fits, e.kept.size)) in
    let chain = c.chain-d.ensures.is ∙ ap (λ (x : Slot). chain_of x.key (length s)) last in
    let pair = paired_to c.set_pair.ensures (ap (λ (x : Slot). x.key) last) (ap (λ (x : Slot). x.life) last) in
    let less : c.args.i < c.args.self.now.count = omega arith in
    let more = c.unlink-2.ensures in
    let linked = k3 _ _ _ _ _ _ c.requires.sound c.requires.low less e.kept chain k more.kept more.linked _ pair in
    search (linked, rules)

-- the last slot is taken out
last_taken : (c : Then-i-count)
    → TakenFrom c.args.self.now.slots.now c.args.self.now.count c.unlink.new.slots (c.args.self.now.count - 1) (at c.args.self.now.slots.now c.args.i).key
last_taken c =
    let s = c.args.self.now.slots.now in
    let e = c.unlink.ensures in
    let k = e.linked (chain_at s) c.requires.sound.linked (sym (c.chain-b.ensures.is ∙ ap (λ (x : Slot). chain_of x.key (length s)) (at_read s _ _ (omega (arith, c.requires.sound.fits))))) in
    let spare : Spare s _ (c.args.self.now.count - 1) = record { keys = λ m _. e.kept.keys m; lives = λ m _. e.kept.lives m } in
    drops _ _ _ _ c.requires.sound c.requires.low c.requires.high e.kept.size spare
    (last_sound _ _ _ _ c.requires.sound c.requires.low c.if-i-count.true e.kept k)
    (last_becomes _ _ _ _ c.requires.sound c.requires.low c.if-i-count.true e.kept k)

-- another one is, and the last one moves to its place
taken : (c : After-link_in)
    → TakenFrom c.args.self.now.slots.now c.args.self.now.count c.link_in.new.slots (c.args.self.now.count - 1) (at c.args.self.now.slots.now c.args.i).key
taken c =
    let s = c.args.self.now.slots.now in
    let e = c.unlink.ensures in
    let k = e.linked (chain_at s) c.requires.sound.linked (sym (c.chain-b.ensures.is ∙ ap (λ (x : Slot). chain_of x.key (length s)) (at_read s _ _ (omega (arith, c.requires.sound.fits))))) in
    let last = c.index-slots-count.is ∙ at_read c.unlink.new.slots _ _ (omega (arith, c.requires.sound.fits, e.kept.size)) in
    let chain = c.chain-d.ensures.is ∙ ap (λ (x : Slot). chain_of x.key (length s)) last in
    let pair = paired_to c.set_pair.ensures (ap (λ (x : Slot). x.key) last) (ap (λ (x : Slot). x.life) last) in
    let less : c.args.i < c.args.self.now.count = omega arith in
    let more = c.unlink-2.ensures in
    let into = c.link_in.ensures in
    let spare : Spare s _ (c.args.self.now.count - 1) = record {
      keys = λ m f. into.kept.keys m ∙ pair.key_else m (λ q. omega (arith, f (omega arith))) ∙ more.kept.keys m ∙ e.kept.keys m;
      lives = λ m f. into.kept.lives m ∙ pair.life_else m (λ q. omega (arith, f (omega arith))) ∙ more.kept.lives m ∙ e.kept.lives m;
    } in
    drops _ _ _ _ c.requires.sound c.requires.low c.requires.high (into.kept.size ∙ pair.size ∙ more.kept.size ∙ e.kept.size) spare
    (taken_sound _ _ _ _ _ _ c.requires.sound c.requires.low less e.kept chain k more.kept more.linked _ pair _ into.kept into.linked)
    (taken_becomes _ _ _ _ _ _ c.requires.sound c.requires.low less e.kept chain k more.kept more.linked _ pair _ into.kept into.linked)

pub invariant_of-self : goal.invariant_of-self
invariant_of-self c = record { held = (last_taken (goal.at.invariant_of-self c).Then-i-count).held }

pub returns-then-i-count : goal.returns-then-i-count
returns-then-i-count c = last_taken (goal.at.returns-then-i-count c).Then-i-count

pub invariant_of-self-2 : goal.invariant_of-self-2
invariant_of-self-2 c = record { held = (taken (goal.at.invariant_of-self-2 c).After-link_in).held }

pub returns : goal.returns
returns c = taken (goal.at.returns c).After-link_in
