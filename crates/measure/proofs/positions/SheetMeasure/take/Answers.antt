use Rattle.std.proofs.Common.{sym, ap, ◌∙◌}
use Rattle.life.specs.Parts.{key_parts, life_parts}
use Rattle.measure.specs.Sheets.{added, negated, one_cell}
use Rattle.measure.proofs.Cells.{one_negated, weight_is}
use Rattle.measure.proofs.positions.SheetMeasure.take.Goals as goal

pub returns : goal.returns
returns c =
    let key = c.args.key.now in
    let v = c.signed_quantity-value in
    let w = c.wrapping_neg in
    c.raise.ensures
    ∙ ap (added c.args.self.now)
    (one_negated key.contract v.result w.result v.type_inv w.type_inv w.ensures
    ∙ ap negated (ap (one_cell key.contract) v.ensures ∙ sym (weight_is (key_parts key) (life_parts c.args.life.now))))
