use Rattle.std.proofs.Common.{◌≡◌, take}
use Rattle.life.specs.Lives.{plain}
use Rattle.measure.specs.Totals.{total_of}
use Rattle.measure.proofs.total.total_of.Given as goal

abbrev pub invariant-loop-key : goal.invariant-loop-key
invariant-loop-key g l = let m = g.M.Measure in l.sum ≡ total_of m.nil m.joined m.weight (plain (take l.key-index l.lives))
