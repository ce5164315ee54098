-- The position report: a line for each contract whose sum is other than zero.
use Rattle.std.specs.Prelude.{ℕ, ◌+◌, cond, List, [], ◌∷◌, ◌++◌, ℤ, ◌==◌, unsigned_abs}
use Rattle.output.specs.declared.lines.AnswerLine.TheVariants.{Position}
use Rattle.output.specs.Lines.{line_text}

-- the line of a contract, or nothing where its sum is zero
unfoldable pub position_text : ℕ → ℤ → List ℕ
position_text contract sum = cond (unsigned_abs sum == 0) [] (line_text (Position contract sum))

-- the sums of the contracts from a number on
abbrev pub positions_from : ℕ → List ℤ → List ℕ
positions_from contract [] = []
positions_from contract (sum ∷ sums) = position_text contract sum ++ positions_from (contract + 1) sums

-- the first sum is that of contract 0
abbrev pub positions_text : List ℤ → List ℕ
positions_text sums = positions_from 0 sums
