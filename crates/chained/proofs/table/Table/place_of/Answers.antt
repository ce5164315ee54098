use Rattle.std.proofs.Common.{ap, ◌∙◌, arith}
use Rattle.life.proofs.KeyOrder.{key_eq}
use Rattle.chained.specs.declared.slot.Slot.{Slot}
use Rattle.chained.proofs.Facts.{opened, at_read, told}
use Rattle.chained.proofs.Chains.{start, step_to}
use Rattle.chained.proofs.table.Table.place_of.Goals as goal

pub loop-j-init : goal.loop-j-init
loop-j-init c =
    let s = c.args.self.now.slots.now in
    let sound = (opened c.args.self.now.held).allowed (omega arith) in
    let b = c.chain.ensures in
    let begins = start s _ c.args.key.now _ _ (ap (λ (x : Slot). x.head) (at_read s _ _ b.high)) sound b.is b.low b.high in
    (sound, begins.0, begins.1, begins.2)

pub returns-then-same : goal.returns-then-same
returns-then-same c =
    let s = c.args.self.now.slots.now in
    let read = c.index-slots-j.is ∙ at_read s c.loop-j.j c.index-slots-j.result (omega arith) in
    let here = told s _ _ c.args.key.now _ read c.if-same.ensures in
    (c.loop-j-test.true, record { within = c.loop-j.invariant.1; held = λ _. key_eq _ _ here; missed = λ z. absurd (omega arith) })

pub loop-j-preserved : goal.loop-j-preserved
loop-j-preserved c =
    let s = c.args.self.now.slots.now in
    let inv = c.loop-j.invariant in
    let more = c.loop-j-test.true in
    let read = c.index-slots-j.is ∙ at_read s c.loop-j.j c.index-slots-j.result (omega arith) in
    let other = told s _ _ c.args.key.now _ read c.if-same.ensures in
    let goes_on = step_to s _ c.args.key.now _ _ (ap (λ (x : Slot). x.next) read) inv.0 more inv.1 (inv.2 more) other inv.3 in
    (inv.0, goes_on.0, goes_on.1, goes_on.2)
