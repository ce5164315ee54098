use Rattle.std.proofs.Common.{◌≡◌, [], ◌++◌, IfOk, OnOk, OnErr, Ok, Err, Result, sym, subst}
use Rattle.std.proofs.Common.{append-nil, rules}
use Rattle.calls.specs.Held.{Led, Stays}
use Rattle.session.specs.Session.{NoFile, ending, listed, lines_of}
use Rattle.session.specs.Held.{in_hand, Answers, GivenLines}
use Rattle.session.proofs.Giving.{Under, under_first, under_line, under_same, under_all, under_some}
use Rattle.session.proofs.Giving.{part_of_all}
use Rattle.session.proofs.Measures.{both_totals}
use Rattle.session.proofs.SessionFiles.{given_files_end}
use Rattle.session.proofs.input.answer_all.Given.{Over}
use Rattle.session.proofs.input.answer_all.Goals as goal
use Rattle.session.proofs.input.answer_all.Goals.{in-Ok, in-Err, in-None-file, in_default-file+in_ok-told-in_default-file}

pub loop-line-init : goal.loop-line-init
loop-line-init g c =
    let checker = c.args.checker.now in
    let input = c.args.input.now in
    let all : c.into_iter-line-iterator.result.rest.now ≡ input = search rules in
    subst (λ rest. Under both_totals checker input checker NoFile rest) (sym all)
    (under_first both_totals checker input)

pub loop-line-preserved : goal.loop-line-preserved
loop-line-preserved g c =
    let was = c.loop-line.checker in
    let file = in_hand c.loop-line.file in
    let line = c.in-Some.line.now in
    let is = c.answer-next.new.checker in
    let next = in_hand c.answer-next.result.0 in
    let follows : IfOk c.answer-next.result.1
    (λ reply. Answers both_totals was file line reply next is) =
    c.answer-next.ensures.follows in
    under_line both_totals c.args.checker.now was is c.args.input.now file next c.loop-line.line-iterator.rest.now line c.next.new.self.rest.now c.in-Some.ensures.steps c.loop-line.invariant
    (elim c.match-reply.branch [
      | in-Ok w ↦ λ capacity past f. let p = subst (λ r. IfOk r (λ reply. Answers both_totals was file line reply next is)) w.in-Ok.is follows capacity past f in (p.1, p.2)
      | in-Err w ↦ absurd (c.in_default.not-Err _ w.printed-is)
    ])

on_ok : {A E : Type 0} {P : Type 0} (r : Result A E) → P → OnOk r P
on_ok (Ok x) p = p
on_ok (Err x) p = tt

on_err : {A E : Type 0} {P : Type 0} (r : Result A E) → P → OnErr r P
on_err (Ok x) p = tt
on_err (Err x) p = p

-- all lines were given, and the file in hand was ended
all_given : (g : Over) (c : goal.After-drop-printer-2 g) →
    GivenLines both_totals c.args.checker.now (lines_of c.args.input.now) c.match-file.checker
all_given g c =
    let at = c.loop-line.checker in
    let file = c.loop-line.file in
    under_all both_totals c.args.checker.now at c.match-file.checker c.args.input.now
    (in_hand file) c.loop-line.line-iterator.rest.now c.in-None.ensures.steps.0
    c.loop-line.invariant
    (elim c.match-file.branch [
      | in-None-file w ↦ λ capacity past f.
          subst (λ x. Led both_totals capacity (past ++ listed (ending (in_hand x))) c.match-file.checker) (sym w.in-None-file.is)
          (subst (λ x. Led both_totals capacity (past ++ []) x) (sym w.checker-is) (subst (λ p. Led both_totals capacity p at) (sym (append-nil past)) f))
      | in_default-file+in_ok-told-in_default-file w ↦ λ capacity past f.
          subst (λ x. Led both_totals capacity (past ++ listed (ending (in_hand file))) x) (sym w.checker-is) (w.end-in_default-file.ensures.follows capacity past f).2
    ])

pub returns-clause-given : goal.returns-clause-given
returns-clause-given g c = on_ok c.flush.result (all_given g c)

pub returns-clause-files : goal.returns-clause-files
returns-clause-files g c =
    on_ok c.flush.result (given_files_end both_totals c.args.checker.now c.match-file.checker
    (lines_of c.args.input.now) (all_given g c))

pub returns-clause-stopped : goal.returns-clause-stopped
returns-clause-stopped g c =
    on_err c.flush.result
    (part_of_all both_totals c.args.checker.now c.match-file.checker c.args.input.now
    (all_given g c))

pub returns-in_err-told-in_default-file : goal.returns-in_err-told-in_default-file
returns-in_err-told-in_default-file g c =
    let was = c.args.checker.now in
    let is = c.end-in_default-file.new.checker in
    let input = c.args.input.now in
    let r = c.from_residual-in_err-told-in_default-file.result in
    let given = under_all both_totals was c.loop-line.checker is input
    (in_hand c.loop-line.file) c.loop-line.line-iterator.rest.now c.in-None.ensures.steps.0
    c.loop-line.invariant
    (λ capacity past f. (c.end-in_default-file.ensures.follows capacity past f).2) in
    record {
      given = on_ok r given;
      files = on_ok r (given_files_end both_totals was is (lines_of input) given);
      stopped = on_err r (part_of_all both_totals was is input given);
    }

pub returns-in-Err-printed-clause-stopped : goal.returns-in-Err-printed-clause-stopped
returns-in-Err-printed-clause-stopped g c =
    let first = c.args.checker.now in
    let was = c.loop-line.checker in
    let file = in_hand c.loop-line.file in
    let line = c.in-Some.line.now in
    let is = c.answer-next.new.checker in
    let next = in_hand c.answer-next.result.0 in
    let last = c.end.new.checker in
    let input = c.args.input.now in
    let rest = c.loop-line.line-iterator.rest.now in
    let more = c.next.new.self.rest.now in
    let follows : IfOk c.answer-next.result.1
    (λ reply. Answers both_totals was file line reply next is) =
    c.answer-next.ensures.follows in
    let memory : OnErr c.answer-next.result.1 ((next ≡ file)
    × Stays both_totals was is) = c.answer-next.ensures.memory in
    elim c.match-reply.branch [
      | in-Ok w ↦
          under_some both_totals first is last input next more
          (under_line both_totals first was is input file next rest line more
          c.in-Some.ensures.steps c.loop-line.invariant
          (λ capacity past f. let p =
          subst (λ r. IfOk r (λ reply. Answers both_totals was file line reply next is))
          w.in-Ok.is follows capacity past f in (p.1, p.2)))
          (λ capacity past f. (c.end.ensures.follows capacity past f).2)
      | in-Err w ↦
          let same = subst (λ r. OnErr r ((next ≡ file)
          × Stays both_totals was is)) w.in-Err.is memory in
          under_some both_totals first is last input next rest
          (under_same both_totals first was is input file next rest c.loop-line.invariant same.0
          same.1)
          (λ capacity past f. (c.end.ensures.follows capacity past f).2)
    ]
