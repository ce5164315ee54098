use Rattle.std.proofs.Common.{ap, ◌∙◌}
use Rattle.life.specs.Parts.{key_parts, life_parts}
use Rattle.measure.specs.Sheets.{added, sheet_weight}
use Rattle.measure.specs.Laws.{sheet_group}
use Rattle.measure.proofs.positions.SheetMeasure.weigh.Goals as goal

pub returns : goal.returns
returns c =
    let w = sheet_weight (key_parts c.args.key.now) (life_parts c.args.life.now) in
    c.put.ensures ∙ ap (λ s. added s w) c.zero-sheet.ensures ∙ sheet_group.unit w
