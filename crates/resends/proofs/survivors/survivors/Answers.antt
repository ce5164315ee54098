use Rattle.std.proofs.Common.{ap, ◌∙◌, rules, tests}
use Rattle.std.proofs.lemmas.Result.{IfOk-weaker, IfOk-at_ok}
use Rattle.std.proofs.lemmas.Iterator.{items_from_collect, YieldsList-from_slice, YieldsList-from_zip}
use Rattle.std.proofs.lemmas.Iterator.Consumers.{YieldsList-from_enumerate, YieldsList-from_filter_map}
use Rattle.calls.specs.Said.{calls_said}
use Rattle.resends.specs.Marks.{marks_in, LastErrors}
use Rattle.resends.proofs.Marking.{kept_at, kept_all}
use Rattle.resends.proofs.survivors.survivors.Goals as goal

pub returns : goal.returns
returns c =
    let cs = c.args.calls.now in
    let ms = c.args.marks.now in
    let last = IfOk-at_ok (LastErrors (marks_in ms)) c.in_ok-last.was c.last_errors.ensures in
    IfOk-weaker c.collect.result _ _ (λ v e. ap calls_said e ∙ kept_all cs ms)
    (items_from_collect _ c.collect.ensures.ran
    (YieldsList-from_filter_map _ (kept_at (marks_in ms)) (YieldsList-from_enumerate (YieldsList-from_zip (YieldsList-from_slice cs cc) (YieldsList-from_slice ms cc)) cc) c.filter_map.ensures.closure (λ x r q k. search (rules, tests, last))))
