use Rattle.book.proofs.Deeds.{life_law}
use Rattle.book.proofs.lives_stand.Goals as goal

pub returns : goal.returns
returns c = life_law
