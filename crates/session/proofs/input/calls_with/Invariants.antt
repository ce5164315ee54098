use Rattle.std.proofs.Common.{ℕ, ◌≡◌, List, [], ◌++◌, vec_items}
use Rattle.text.specs.Bytes.{Bytes}
use Rattle.calls.specs.Held.{Led}
use Rattle.calls.specs.Said.{calls_said}
use Rattle.session.specs.Held.{in_hand}
use Rattle.session.specs.Session.{lines_of}
use Rattle.session.proofs.Giving.{Given}
use Rattle.session.proofs.Measures.{both_totals}
use Rattle.session.proofs.input.calls_with.Given as goal

abbrev pub invariant-loop-line : goal.invariant-loop-line
invariant-loop-line g l =
    (read : List Bytes)
    × (lines_of l.input ≡ read ++ lines_of l.line-iterator.rest.now)
    × ((capacity : ℕ) → Led both_totals capacity [] l.initial.checker →
    Given both_totals capacity [] read (calls_said (vec_items l.calls)) l.checker (in_hand l.file))
