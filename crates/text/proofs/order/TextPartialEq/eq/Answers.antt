use Rattle.text.proofs.Compared.{same_with_zeros}
use Rattle.text.proofs.order.TextPartialEq.eq.Goals as goal

pub returns-then-self-other : goal.returns-then-self-other
returns-then-self-other g c = same_with_zeros c.args.self.now c.args.other.now _ c.if-self-other.true c.eq.ensures
