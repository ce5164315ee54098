use Rattle.book.proofs.FileCounts.{files_law}
use Rattle.book.proofs.files_count.Goals as goal

pub returns : goal.returns
returns c = files_law
