-- The files that a list holds, as plain data.
use Rattle.std.specs.Prelude.{ℕ, ◌+◌, List}
use Rattle.text.specs.Texts.{text_of}
use Rattle.calls.specs.declared.files.held.HeldFile.{HeldFile}
use Rattle.calls.specs.declared.files.stage.Stage.{Stage}
use Rattle.calls.specs.declared.files.stage.Stage.TheVariants as held
use Rattle.filing.specs.Files as filing
use Rattle.filing.specs.Files.{File}

-- the stage that the code keeps, as that of a file
abbrev pub stage_of : Stage → filing.Stage
stage_of held.Named = filing.Named
stage_of held.Identified = filing.Identified
stage_of held.Ended = filing.Ended

-- a held file as plain data: its lines judged are those accepted and those refused
abbrev pub as_file : HeldFile → File
as_file f = record {
  stage = stage_of f.stage;
  entity = text_of f.entity;
  judged = f.accepted + f.refused;
  accepted = f.accepted;
  refused = f.refused;
}

-- what a list of files is: the files in the order of naming, and how many have a place reserved
pub record Filed : Type 0 where
  pub files : List File
  pub places : ℕ

-- other files in the same places
abbrev pub with_files : List File → Filed → Filed
with_files files filed = record filed { files = files }
