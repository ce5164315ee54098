use Rattle.std.proofs.Common.{◌∙◌}
use Rattle.book.specs.Book.{Total, Accepted}
use Rattle.calls.specs.Held.{book_in}
use Rattle.calls.proofs.Checkers.{continues}
use Rattle.calls.proofs.Moves.{total_step}
use Rattle.calls.proofs.checker.Checker.total.Goals as goal

pub returns : goal.returns
returns g c =
    let m = g.M.Measure in
    let was = c.args.self.now in
    record {
      told = λ capacity past f. c.total.ensures.told ∙ f.sums;
      follows = continues m was was Total Accepted (total_step m (book_in was) was.register.total);
    }
