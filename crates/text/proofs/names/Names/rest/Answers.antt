use Rattle.std.proofs.Common.{arith}
use Rattle.std.proofs.lemmas.Grind.{common_steps}
use Rattle.text.proofs.NameLists.{last_listed, rest_listed}
use Rattle.text.proofs.names.Names.rest.Goals as goal

pub returns : goal.returns
returns c = grind (arith, common_steps, last_listed, rest_listed)
