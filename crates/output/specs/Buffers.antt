-- A text written to the front of a buffer: the whole of it, or, where the buffer is too short, nothing.
use Rattle.std.specs.Prelude.{◌≡◌, ℕ, Bool, cond, List, ◌++◌, length, drop, Ok, Err, Result, nat_le}
use Rattle.output.specs.declared.faults.OutputFault.{OutputFault}
use Rattle.output.specs.declared.faults.OutputFault.TheVariants.{TooShort}

abbrev pub fits : List ℕ → List ℕ → Bool
fits buffer text = nat_le (length text) (length buffer)

-- what is answered: the number of bytes written, or that the buffer is too short
abbrev pub answered : List ℕ → List ℕ → Result ℕ OutputFault
answered buffer text = cond (fits buffer text) (Ok (length text)) (Err TooShort)

-- what the buffer holds afterwards
abbrev pub filled : List ℕ → List ℕ → List ℕ
filled buffer text = cond (fits buffer text) (text ++ drop (length text) buffer) buffer

-- the text was written into the buffer, with the answer and the content afterwards
pub record Wrote (buffer text : List ℕ) (answer : Result ℕ OutputFault) (after : List ℕ) : Type 0 where
  pub answers : answer ≡ answered buffer text
  pub holds : after ≡ filled buffer text
