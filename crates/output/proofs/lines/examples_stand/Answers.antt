use Rattle.std.proofs.Common.{refl}
use Rattle.std.specs.Fmt.{digits}
use Rattle.output.specs.Lines.{hexadecimal}
use Rattle.output.specs.Positions.{position_text}
use Rattle.output.proofs.lines.examples_stand.Goals as goal

pub returns : goal.returns
unfolding digits hexadecimal position_text
returns c = record { lines = (refl, (refl, (refl, (refl, (refl, (refl, (refl, tt))))))); report = refl }
