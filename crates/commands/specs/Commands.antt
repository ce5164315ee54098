-- The commands of the programs, and which lines of input are none.
use Rattle.std.specs.Prelude.{ℕ, cond, not, List, [], ◌∷◌, length, is_some, Some, None, Ok, Err, Option, Result, ◌==◌, nat_lt}
use Rattle.text.specs.Bytes.{Bytes}
use Rattle.text.specs.Rows.{Row, row}
use Rattle.commands.specs.declared.command.Command.{Command}
use Rattle.commands.specs.declared.command.Command.TheVariants as command
use Rattle.commands.specs.declared.command.CommandFault.{CommandFault}
use Rattle.commands.specs.declared.command.CommandFault.TheVariants.{Length, Unknown}

-- ---- Commands

-- what a command asks for
pub data CommandParts : Type 0 where
  AddEntity AddContract NameFile Identify Judge : Bytes → CommandParts
  Positions CheckWord EndFile : CommandParts

abbrev pub command_parts : Command → CommandParts
command_parts (command.AddEntity code) = AddEntity code.now
command_parts (command.AddContract text) = AddContract text.now
command_parts (command.NameFile name) = NameFile name.now
command_parts (command.Identify code) = Identify code.now
command_parts (command.Judge line) = Judge line.now
command_parts command.Positions = Positions
command_parts command.CheckWord = CheckWord
command_parts command.EndFile = EndFile

-- ---- Lines

-- the letters that a semicolon and a text follow: R, K, F, I and P
abbrev pub with_text : ℕ → Bytes → Option CommandParts
with_text letter text =
    cond (letter == 82) (Some (AddEntity text))
    (cond (letter == 75) (Some (AddContract text))
    (cond (letter == 70) (Some (NameFile text))
    (cond (letter == 73) (Some (Identify text))
    (cond (letter == 80) (Some (Judge text)) None))))

-- the letters that stand alone: T, W and X
abbrev pub alone : ℕ → Option CommandParts
alone letter =
    cond (letter == 84) (Some Positions)
    (cond (letter == 87) (Some CheckWord)
    (cond (letter == 88) (Some EndFile) None))

abbrev pub command_form : Bytes → Option CommandParts
command_form [] = None
command_form (letter ∷ []) = alone letter
command_form (letter ∷ mark ∷ text) = cond (mark == 59) (with_text letter text) None

-- ---- Refusals

-- 1 for a line of over 514 bytes, and 66 for one that is no command
abbrev pub command_rows : List (Row Bytes)
command_rows =
    row 1 0 (λ bs. nat_lt 514 (length bs))
    ∷ row 66 0 (λ bs. not (is_some (command_form bs)))
    ∷ []

-- the published number
abbrev pub command_number : CommandFault → ℕ
command_number Length = 1
command_number Unknown = 66

-- number and field of the refusal, if there is one; no field is named
abbrev pub refusal_in : {V : Type 0} → Result V CommandFault → Option (ℕ × ℕ)
refusal_in (Ok v) = None
refusal_in (Err e) = Some (command_number e, 0)
