use Rattle.book.proofs.Totals.{totals_law}
use Rattle.book.proofs.totals_stand.Goals as goal

pub returns : goal.returns
returns g c = totals_law
