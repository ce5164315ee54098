use Rattle.std.proofs.Common.{arith}
use Rattle.std.proofs.lemmas.Grind.{common_steps}
use Rattle.output.proofs.Hexadecimals.{encoded}
use Rattle.output.proofs.fronts.check_word.Goals as goal

pub returns : goal.returns
returns c = let text = encoded 8 c.args.word in grind (arith, common_steps, text)
