-- Examples of answer lines and of a position report.
use Rattle.std.specs.Prelude.{◌≡◌, ℕ, List, [], ◌∷◌, pos, negsuc, Some, None, codes, Option}
use Rattle.std.specs.Borrow.{Bor}
use Rattle.output.specs.declared.lines.AnswerLine.{AnswerLine}
use Rattle.output.specs.declared.lines.AnswerLine.TheVariants.{Accepted, Refused, Position, CheckWord, Receipt}
use Rattle.output.specs.Lines.{line_text}
use Rattle.output.specs.Positions.{positions_text}

-- a line and its text
abbrev pub Stands : AnswerLine × List ℕ → Type 0
Stands e = line_text e.0 ≡ e.1

-- a code, wherever its bytes lie
abbrev code : List ℕ → Option (Bor (List ℕ))
code bytes = Some (record { ref_ptr = (0, 0); now = bytes })

abbrev pub examples : List (AnswerLine × List ℕ)
examples =
    (Accepted, codes "A\n")
    ∷ (Refused 46 8 None, codes "R 46 8 -\n")
    ∷ (Refused 45 7 (code (codes "R1LIATTRERR")), codes "R 45 7 R1LIATTRERR\n")
    ∷ (Position 1 (pos 2000000), codes "T 1 2000000\n")
    ∷ (Position 5 (negsuc 0), codes "T 5 -1\n")
    ∷ (CheckWord 255, codes "W 00000000000000ff\n")
    ∷ (Receipt 4 2 2, codes "Z 4 2 2\n")
    ∷ []

-- the sums of contracts 0 to 3
abbrev pub ReportStands : Type 0
ReportStands = positions_text (pos 0 ∷ pos 2000000 ∷ pos 0 ∷ negsuc 0 ∷ []) ≡ codes "T 1 2000000\nT 3 -1\n"
