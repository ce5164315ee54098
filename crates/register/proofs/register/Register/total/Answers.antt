use Rattle.measure.proofs.Exact.{within_from}
use Rattle.register.proofs.register.Register.total.Goals as goal

pub returns-clause-bounded : goal.returns-clause-bounded
returns-clause-bounded g c = within_from c.args.self.now.lives c.args.self.now.bounded
