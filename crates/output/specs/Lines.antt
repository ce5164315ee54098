-- The text of an answer line.
use Rattle.std.specs.Prelude.{ℕ, zero, suc, ◌/◌, ◌%◌, false, List, [], ◌∷◌, ◌++◌, Some, None, codes, decimal, Option}
use Rattle.std.specs.Borrow.{Bor}
use Rattle.std.specs.List.{join_with_byte}
use Rattle.std.specs.Fmt.{signed_decimal, digit_glyph}
use Rattle.output.specs.declared.lines.AnswerLine.{AnswerLine}
use Rattle.output.specs.declared.lines.AnswerLine.TheVariants.{Accepted, Refused, Position, CheckWord, Receipt}

-- the last k hexadecimal digits of a number, in small letters
unfoldable pub hexadecimal : ℕ → ℕ → List ℕ
hexadecimal zero n = []
hexadecimal (suc k) n = hexadecimal k (n / 16) ++ (digit_glyph false (n % 16) ∷ [])

-- a hyphen where there is no code
abbrev pub code_text : Option (Bor (List ℕ)) → List ℕ
code_text None = codes "-"
code_text (Some code) = code.now

-- the words of each line; a refusal's code is a word
abbrev pub accepted_words : List (List ℕ)
accepted_words = codes "A" ∷ []

abbrev pub refused_words : ℕ → ℕ → List ℕ → List (List ℕ)
refused_words number field code = codes "R" ∷ decimal number ∷ decimal field ∷ code ∷ []

abbrev pub receipt_words : ℕ → ℕ → ℕ → List (List ℕ)
receipt_words judged accepted refused = codes "Z" ∷ decimal judged ∷ decimal accepted ∷ decimal refused ∷ []

abbrev pub words : AnswerLine → List (List ℕ)
words Accepted = accepted_words
words (Refused number field code) = refused_words number field (code_text code)
words (Position contract sum) = codes "T" ∷ decimal contract ∷ signed_decimal sum ∷ []
words (CheckWord word) = codes "W" ∷ hexadecimal 16 word ∷ []
words (Receipt judged accepted refused) = receipt_words judged accepted refused

-- words, one blank between two, and a line feed
abbrev pub text_of_words : List (List ℕ) → List ℕ
text_of_words ws = join_with_byte 32 ws ++ (10 ∷ [])

abbrev pub line_text : AnswerLine → List ℕ
line_text line = text_of_words (words line)
