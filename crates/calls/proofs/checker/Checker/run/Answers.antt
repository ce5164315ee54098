use Rattle.std.proofs.Common.{take, subst}
use Rattle.calls.specs.Runs.{HasRun}
use Rattle.calls.specs.Said.{calls_said}
use Rattle.calls.proofs.Laws.{files_counted, lives_told}
use Rattle.calls.proofs.Running.{said_more, said_all}
use Rattle.calls.proofs.checker.Checker.run.Goals as goal

pub loop-call-init : goal.loop-call-init
loop-call-init g c = λ capacity f. f

pub loop-call-preserved : goal.loop-call-preserved
loop-call-preserved g c = λ capacity f.
    let m = g.M.Measure in
    let cs = c.args.calls.now in
    let i = c.loop-call.call-index in
    subst (λ calls. HasRun m capacity calls c.step.new.self) (said_more cs i _ c.loop-call-test.true)
    (c.in_ok-step.ensures capacity (calls_said (take i cs)) (c.loop-call.invariant capacity f))

pub returns-clause-runs : goal.returns-clause-runs
returns-clause-runs g c =
    let m = g.M.Measure in
    let s = g.S.Store in
    let capacity = s.room c.args.store.now in
    subst (λ calls. HasRun m capacity calls c.loop-call.run) (said_all c.args.calls.now c.loop-call.call-index c.loop-call-test.false)
    (c.loop-call.invariant capacity c.in_ok-run.ensures.runs)

pub returns-clause-files : goal.returns-clause-files
returns-clause-files g c = files_counted g.M.Measure _ _ _ _ _ _ (returns-clause-runs g c).ran

pub returns-clause-lives : goal.returns-clause-lives
returns-clause-lives g c = lives_told g.M.Measure _ _ _ _ _ _ (returns-clause-runs g c).ran
