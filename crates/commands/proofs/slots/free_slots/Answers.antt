use Rattle.std.proofs.Common.{◌≡◌, replicate, ◌∙◌}
use Rattle.std.proofs.lemmas.Result.{IfOk-weaker}
use Rattle.commands.specs.Slots.{free_slot}
use Rattle.commands.proofs.Blank.{blank_key, blank_life}
use Rattle.commands.proofs.slots.free_slots.Goals as goal

pub returns : goal.returns
returns c =
    let k = blank_key c.new.result c.unwrap-key.result c.unwrap-key.ensures c.new.ensures in
    let l = blank_life c.new-2.result c.unwrap-life.result c.unwrap-life.ensures c.new-2.ensures in
    IfOk-weaker c.vec.result _ (λ slots. slots.items ≡ replicate c.args.n free_slot)
    (λ slots p. p (λ y h. h) ∙ (λ i. replicate c.args.n (record { head = 0; next = 0; key = k i; life = l i })))
    c.vec.ensures.items_if_clones_equal
