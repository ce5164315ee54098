-- Files: first named, then identified, then ended by closing, or by withdrawing where they were only named.
use Rattle.std.specs.Prelude.{ℕ, suc, Bool, true, false, not, ◌||◌, List, [], ◌∷◌, nat_le, slice_index_or}
use Rattle.std.specs.Str.{bytes_eq}
use Rattle.text.specs.Bytes.{Bytes, among}
use Rattle.text.specs.Rows.{Row, row}

pub data Stage : Type 0 where
  Named Identified Ended : Stage

-- a file: its stage, the entity code of its name, and its lines judged, accepted and refused
pub record File : Type 0 where
  pub stage : Stage
  pub entity : Bytes
  pub judged : ℕ
  pub accepted : ℕ
  pub refused : ℕ

-- a file just named
abbrev pub named_file : Bytes → File
named_file code = record { stage = Named; entity = code; judged = 0; accepted = 0; refused = 0 }

abbrev pub at_stage : Stage → File → File
at_stage s f = record f { stage = s }

-- what stands where no file does: nothing can be done with it
abbrev pub no_file : File
no_file = at_stage Ended (named_file [])

-- the file of a number, in the order of naming from 0; `no_file` if there are not so many
abbrev pub file_of : List File → ℕ → File
file_of fs n = slice_index_or fs n no_file

abbrev pub only_named : Stage → Bool
only_named Named = true
only_named _ = false

abbrev pub identified : Stage → Bool
identified Identified = true
identified _ = false

-- the most lines judged in a file
abbrev pub judged_limit : ℕ
judged_limit = 1_000_000

-- ---- The tables of refusals; a call that the file's stage does not allow is out of place (66)

-- in identifying: by the entities known, the file and the code
abbrev pub identifying_rows : List (Row (List Bytes × File × Bytes))
identifying_rows =
    row 66 0 (λ x. not (only_named x.1.stage))
    ∷ row 65 0 (λ x. not (among x.0 x.2) || not (bytes_eq x.1.entity x.2))
    ∷ []

abbrev pub withdrawing_rows : List (Row File)
withdrawing_rows = row 66 0 (λ f. not (only_named f.stage)) ∷ []

abbrev pub closing_rows : List (Row File)
closing_rows = row 66 0 (λ f. not (identified f.stage)) ∷ []

-- in judging a line: what the file asks before the line is read
abbrev pub taking_rows : List (Row File)
taking_rows =
    row 66 0 (λ f. not (identified f.stage))
    ∷ row 9 0 (λ f. nat_le judged_limit f.judged)
    ∷ []

-- ---- Counts

-- one more line judged and accepted
abbrev pub one_accepted : File → File
one_accepted f = record f { judged = suc f.judged; accepted = suc f.accepted }

-- one more line judged and refused
abbrev pub one_refused : File → File
one_refused f = record f { judged = suc f.judged; refused = suc f.refused }
