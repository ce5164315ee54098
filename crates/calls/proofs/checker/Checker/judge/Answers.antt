use Rattle.std.proofs.Common.{subst}
use Rattle.book.specs.Book.{Judge}
use Rattle.calls.specs.Held.{book_in}
use Rattle.calls.specs.Said.{judge_answer}
use Rattle.calls.specs.Steps.{Step}
use Rattle.calls.proofs.Checkers.{continues}
use Rattle.calls.proofs.checker.Checker.judge.Goals as goal

pub returns-clause-follows : goal.returns-clause-follows
returns-clause-follows g c =
    let m = g.M.Measure in
    let was = c.args.self.now in
    let is = c.judge_at.new.self in
    continues m was is (Judge c.args.file.now.number c.args.line.now) (judge_answer c.judge_at.result)
    (subst (λ n. Step m (book_in was) was.register.total (Judge n c.args.line.now) (judge_answer c.judge_at.result) (book_in is) is.register.total) c.number.ensures c.judge_at.ensures.step)
