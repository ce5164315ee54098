-- The files of a list, and what calls make of them.
use Rattle.std.specs.Prelude.{ℕ, Bool, cond, List, [], ◌∷◌, ◌++◌, is_some, slice_set}
use Rattle.text.specs.Bytes.{Bytes, value}
use Rattle.text.specs.Rows.{first_fit}
use Rattle.filing.specs.Names.{name_form, naming_rows}
use Rattle.filing.specs.Files.{Identified, Ended, File, named_file, at_stage, identifying_rows, withdrawing_rows, closing_rows, taking_rows, one_accepted, one_refused}
pub use Rattle.filing.specs.Files.{no_file, file_of}

-- a line judged in a file counts there, unless the file takes none
abbrev pub counted : Bool → File → File
counted ok f = cond (is_some (first_fit taking_rows f)) f (cond ok (one_accepted f) (one_refused f))

-- ---- The files after a call; where a row fits, they are as they were

abbrev pub named_in : List File → Bytes → List File
named_in fs bs = cond (is_some (first_fit naming_rows bs)) fs (fs ++ named_file (value [] (name_form bs)) ∷ [])

abbrev pub identified_in : List Bytes → List File → ℕ → Bytes → List File
identified_in es fs n code = cond (is_some (first_fit identifying_rows (es, file_of fs n, code))) fs (slice_set fs n (at_stage Identified (file_of fs n)))

abbrev pub withdrawn_in : List File → ℕ → List File
withdrawn_in fs n = cond (is_some (first_fit withdrawing_rows (file_of fs n))) fs (slice_set fs n (at_stage Ended (file_of fs n)))

abbrev pub closed_in : List File → ℕ → List File
closed_in fs n = cond (is_some (first_fit closing_rows (file_of fs n))) fs (slice_set fs n (at_stage Ended (file_of fs n)))
