use Rattle.std.proofs.Common.{◌≡◌, ℕ, ◌<◌, length, get_or, pos}
use Rattle.measure.specs.declared.measure.Measure.{Ghosts}
use Rattle.measure.specs.declared.both.Both.{Both}
use Rattle.measure.specs.declared.sheet.Sheet.{Sheet}
use Rattle.measure.specs.Boths.{both, both_joined, both_inverse, both_weight}
use Rattle.measure.specs.Laws.{both_group, sheet_group}
use Rattle.measure.specs.Sheets.{no_sheet, added, negated, sheet_weight}
use Rattle.calls.specs.Positions.{TellsPosition}
use Rattle.calls.proofs.positions.Checker+S+Both+Sheet+B.positions.Given as goal

-- the pair of the position sheet and the other measure
abbrev pair : {B : Type 0} → Ghosts B → Ghosts (Both Sheet B)
pair b = record {
  nil = both no_sheet b.nil;
  joined = both_joined added b.joined;
  inverse = both_inverse negated b.inverse;
  weight = both_weight sheet_weight b.weight;
  laws = both_group sheet_group b.laws;
}

abbrev pub invariant-loop-n : goal.invariant-loop-n
invariant-loop-n g l = (length l.sum-items ≡ 64) × ((n : ℕ) → n < l.n → TellsPosition (pair g.B.Measure) l.self n (get_or l.sum-items n (pos 0)))
