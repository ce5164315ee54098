use Rattle.std.proofs.Common.{◌≡◌, ℕ}
use Rattle.std.specs.Iterator.Adapters.{zip_first, zip_second}
use Rattle.std.specs.Slice.Iter.{iter_rest}
use Rattle.book.specs.Book.{empty_book, answers}
use Rattle.calls.specs.Said.{calls_said, answers_said}
use Rattle.resends.specs.Marks.{marks_in}
use Rattle.resends.proofs.Noting.{SoFar}
use Rattle.resends.proofs.marks.marks.Given as goal

abbrev pub invariant-loop-call : goal.invariant-loop-call
invariant-loop-call l =
    (capacity : ℕ) → answers_said l.answers ≡ answers (empty_book capacity) (calls_said l.calls) →
    SoFar (empty_book capacity) (calls_said l.calls) (iter_rest (zip_first l.call-iterator)) (iter_rest (zip_second l.call-iterator)) l.contracts (marks_in l.marks.items)
