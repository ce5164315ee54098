use Rattle.std.proofs.Common.{ℕ, ◌+◌, ◌%◌, ◌^◌, set, ap}
use Rattle.measure.specs.Sheets.{cell}
use Rattle.measure.proofs.Cells.{raised}
use Rattle.measure.proofs.sheet.Sheet.raise.Goals as goal

pub returns : goal.returns
returns c =
    let s = c.args.self.now in
    raised s _ _ c.args.value c.requires (ap (λ (i : ℕ). set s.cells i ((cell s i + c.args.value) % 2 ^ 64)) c.from.ensures)
