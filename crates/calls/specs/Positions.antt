-- The positions that a checker tells.
use Rattle.measure.specs.declared.measure.Measure.{Ghosts}
use Rattle.std.specs.Prelude.{◌≡◌, ℕ, ◌≤◌, List, ℤ}
use Rattle.measure.specs.declared.both.Both.{Both}
use Rattle.measure.specs.declared.sheet.Sheet.{Sheet}
use Rattle.measure.specs.Positions.{true_position}
use Rattle.measure.specs.Sheets.{wrapped}
use Rattle.book.specs.Book.{Call}
use Rattle.calls.specs.declared.checker.Checker.{Checker}
use Rattle.calls.specs.Follows.{book_after}
use Rattle.calls.specs.Held.{Led}

-- for every list of calls that led to the checker, this is, modulo 2^64, the position of contract n
-- in the book after them: the quantities of its open trades, plus for a buy and minus for a sell,
-- as a sum of integers; and with room for at most 65,535 lives it is that position itself
abbrev pub TellsPosition : {S B : Type 0} → Ghosts (Both Sheet B) → Checker S (Both Sheet B) → ℕ → ℤ → Type 0
TellsPosition weighing checker n sum =
    (capacity : ℕ) (past : List Call) → Led weighing capacity past checker →
    let position = true_position n (book_after capacity past).lives in
    (sum ≡ wrapped position) × (capacity ≤ 65535 → sum ≡ position)
