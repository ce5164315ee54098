use Rattle.std.proofs.Common.{arith}
use Rattle.std.proofs.lemmas.Grind.{common_steps}
use Rattle.std.proofs.lemmas.Bool.Decides.{nat_tests}
use Rattle.text.proofs.NameLists.{formed_more, past_more}
use Rattle.text.proofs.names.are_formed.Goals as goal

pub loop-preserved : goal.loop-preserved
loop-preserved c = grind (arith, nat_tests, common_steps, formed_more, past_more)

pub returns-then-not-is_name-clause-value : goal.returns-then-not-is_name-clause-value
returns-then-not-is_name-clause-value c = grind (arith, nat_tests, common_steps, formed_more)
