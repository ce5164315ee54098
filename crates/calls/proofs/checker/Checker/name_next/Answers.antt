use Rattle.std.proofs.Common.{refl, cond, sym, ap, ◌∙◌, subst}
use Rattle.calls.specs.FileAnswers.{had_memory}
use Rattle.calls.specs.FilesAfter.{named_in}
use Rattle.book.specs.Book.{with_files, NameFile}
use Rattle.calls.specs.declared.checker.Checker.{Checker}
use Rattle.calls.specs.Follows.{Follows}
use Rattle.calls.specs.Held.{book_in}
use Rattle.calls.specs.Said.{naming_answer}
use Rattle.calls.proofs.Checkers.{continues, named_so, wanting_so}
use Rattle.calls.proofs.Moves.{naming_step}
use Rattle.calls.proofs.checker.Checker.name_next.Goals as goal

pub returns : goal.returns
returns g c =
    let m = g.M.Measure in
    let was = c.args.self.now in
    let named = c.name_next in
    let files = was.files.files in
    let is : Checker g.row.S.Denot g.row.M.Denot = record was { files = named.new.self } in
    let so = named_so m was is (NameFile c.args.name.now) (had_memory named.result) (naming_answer named.result) c.of_naming.result c.of_naming.ensures.answer
    (λ had. continues m was is (NameFile c.args.name.now) (naming_answer named.result)
    (naming_step m (book_in was) was.register.total c.args.name.now named.result (named.new.self.files) had named.ensures.told named.ensures.list))
    (λ none capacity past f. subst (λ fs. Follows m capacity past (with_files (book_in was) fs) was.register.total)
    (sym (named.ensures.list ∙ ap (λ b. cond b (named_in files c.args.name.now) files) none)) f) in
    let wanting = wanting_so _ (had_memory named.result) c.of_naming.result c.of_naming.ensures.answer (λ none. (c.args.name.now, refl, named.ensures.form_first none)) in
    record { follows = so.0; memory = so.1; wanting = wanting; code = c.of_naming.ensures.code; kinds = c.of_naming.ensures.kinds }
