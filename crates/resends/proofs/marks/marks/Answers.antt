use Rattle.std.proofs.Common.{◌∷◌, [], sym, ap, ◌∙◌, subst, ⊎_elim}
use mathlib.Core.List.{map-append}
use Rattle.std.proofs.lemmas.Slice.Zip.{Zip-more, either_empty_from_Zip}
use Rattle.std.specs.Iterator.Adapters.{zip_first, zip_second}
use Rattle.std.specs.Slice.Iter.{iter_rest}
use Rattle.book.specs.Book.{empty_book}
use Rattle.calls.specs.Said.{calls_said}
use Rattle.resends.specs.Marks.{mark_parts, marks_in}
use Rattle.resends.proofs.Noting.{SoFar, at_first, one_more, all_marked, all_answered}
use Rattle.resends.proofs.marks.marks.Goals as goal

pub loop-call-init : goal.loop-call-init
loop-call-init c = λ capacity e.
    at_first (empty_book capacity) c.args.calls.now _ c.args.answers.now _ _ _ (sym c.in_ok-contracts.ensures)
    (ap (λ z. iter_rest (zip_first z)) c.into_iter-call-iterator.ensures.into_iter_gives ∙ ap iter_rest c.zip-call-items.ensures.first ∙ c.iter.ensures.rest)
    (ap (λ z. iter_rest (zip_second z)) c.into_iter-call-iterator.ensures.into_iter_gives ∙ (cc))
    (ap marks_in c.in_ok-marks.ensures.items) e

pub loop-call-preserved : goal.loop-call-preserved
loop-call-preserved c = λ capacity e.
    let more = Zip-more c.loop-call.call-iterator c.next.new.self _ _ c.in-Some.is c.next.ensures.steps in
    subst (SoFar (empty_book capacity) (calls_said c.args.calls.now) _ _ c.mark_of.new.contracts)
    (sym (ap marks_in c.in_ok-push.ensures.items ∙ map-append mark_parts c.loop-call.marks.items (c.mark_of.result ∷ [])))
    (one_more (empty_book capacity) (calls_said c.args.calls.now) _ _ _ _ c.loop-call.contracts c.mark_of.new.contracts _ c.in-Some.call.now c.in-Some.answer.now (mark_parts c.mark_of.result)
    more.0 more.1 (c.loop-call.invariant capacity e) c.mark_of.ensures)

pub returns : goal.returns
returns c = λ capacity e.
    let s = c.loop-call.invariant capacity e in
    ⊎_elim (all_marked _ _ _ _ _ _ s) (all_answered _ _ _ _ _ _ s) (either_empty_from_Zip c.loop-call.call-iterator c.next.new.self _ c.in-None.is c.next.ensures.steps)
