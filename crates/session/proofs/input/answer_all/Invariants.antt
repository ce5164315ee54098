use Rattle.session.specs.Held.{in_hand}
use Rattle.session.proofs.Giving.{Under}
use Rattle.session.proofs.Measures.{both_totals}
use Rattle.session.proofs.input.answer_all.Given as goal

abbrev pub invariant-loop-line : goal.invariant-loop-line
invariant-loop-line g l = Under both_totals l.initial.checker l.input l.checker (in_hand l.file) l.line-iterator.rest.now
