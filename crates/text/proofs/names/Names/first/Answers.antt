use Rattle.std.proofs.Common.{arith}
use Rattle.std.proofs.lemmas.Grind.{common_steps}
use Rattle.text.proofs.NameLists.{first_listed}
use Rattle.text.proofs.names.Names.first.Goals as goal

pub returns : goal.returns
returns c = grind (arith, common_steps, first_listed)
