use Rattle.std.proofs.Common.{arith}
use Rattle.std.specs.Char.{is_ascii_digit}
use Rattle.std.proofs.lemmas.Bool.Decides.{nat_tests}
use Rattle.text.proofs.Leaves.{every_yes, every_no, every_all, written_more, written_all, power_more, power_ten}
use Rattle.text.proofs.numbers.digits_of.Goals as goal

pub returns-then-not-is_ascii_digit : goal.returns-then-not-is_ascii_digit
returns-then-not-is_ascii_digit c = grind (arith, nat_tests, every_no is_ascii_digit)

pub loop-b-preserved : goal.loop-b-preserved
loop-b-preserved c = (
  grind (arith, nat_tests, every_yes is_ascii_digit),
  grind (arith, nat_tests, written_more),
  power_more _ _ _ c.loop-b.invariant.2 (grind (arith, nat_tests)),
)

pub returns : goal.returns
returns c = record { value = grind (arith, nat_tests, every_all is_ascii_digit, written_all); small = power_ten _ _ c.loop-b.invariant.2 (omega arith) }
