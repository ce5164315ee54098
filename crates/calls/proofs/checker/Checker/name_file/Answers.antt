use Rattle.std.proofs.Common.{cond, sym, refl, ap, ◌∙◌, subst, arith}
use Rattle.std.proofs.lemmas.Bool.{true_from_ne_false}
use Rattle.std.proofs.lemmas.Result.{on_err_weaker}
use Rattle.calls.specs.FilesHeld.{Filed}
use Rattle.calls.specs.FilesAfter.{named_in}
use Rattle.book.specs.Book.{with_files, NameFile}
use Rattle.calls.specs.Follows.{Follows}
use Rattle.calls.specs.Held.{book_in}
use Rattle.calls.specs.Said.{naming_answer}
use Rattle.calls.proofs.Checkers.{continues_files}
use Rattle.calls.proofs.Moves.{naming_step}
use Rattle.calls.proofs.checker.Checker.name_file.Goals as goal

pub returns-clause-follows : goal.returns-clause-follows
returns-clause-follows g c had =
    let m = g.M.Measure in
    let was = c.args.self.now in
    let name = c.args.name.now in
    continues_files m was c.name.new.self (NameFile name) (naming_answer c.name.result)
    (naming_step m (book_in was) was.register.total name c.name.result (c.name.new.self.files) had c.name.ensures.told c.name.ensures.list)

pub returns-clause-memory : goal.returns-clause-memory
returns-clause-memory g c none capacity past f =
    let was = c.args.self.now in
    let files = was.files.files in
    subst (λ fs. Follows g.M.Measure capacity past (with_files (book_in was) fs) was.register.total)
    (sym (c.name.ensures.list ∙ ap (λ b. cond b (named_in files c.args.name.now) files) none)) f

pub returns-clause-wanting : goal.returns-clause-wanting
returns-clause-wanting g c none = (c.args.name.now, refl, c.name.ensures.form_first none)

pub returns-clause-refused : goal.returns-clause-refused
returns-clause-refused g c =
    let was = c.args.self.now in
    on_err_weaker c.name.result (λ e. ap (λ (files : Filed). record was { files = files }) e) c.name.ensures.refused

pub returns-clause-reserved : goal.returns-clause-reserved
returns-clause-reserved g c h = true_from_ne_false _ (λ none. omega (arith, h, c.name.ensures.memory none))
