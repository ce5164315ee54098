-- The book: what is held and answered, said by the capacity and the calls alone.
use Rattle.std.specs.Prelude.{ℕ, Bool, cond, List, [], ◌∷◌, ◌++◌, length, ℤ, is_some, Some, None, Option, nat_le, slice_set}
use Rattle.text.specs.declared.words.Action.{Action}
use Rattle.text.specs.declared.words.Action.TheVariants.{New, Modify, Error, Cancel}
use Rattle.text.specs.Bytes.{Bytes, start, value}
use Rattle.text.specs.Rows.{Row, first_fit, looking_at, fields}
use Rattle.line.specs.Lines.{Reported, report, line_rows}
use Rattle.contract.specs.ContractList.{Contract, offered, contract_rows, Told, told, market_rows, contract_number}
use Rattle.filing.specs.Entities.{entity_rows}
use Rattle.filing.specs.Names.{name_form, naming_rows}
use Rattle.filing.specs.Files.{Identified, Ended, File, named_file, at_stage, identifying_rows, withdrawing_rows, closing_rows, taking_rows, one_accepted, one_refused}
pub use Rattle.filing.specs.Files.{no_file, file_of}
use Rattle.life.specs.Parts.{KeyParts, LifeParts}
use Rattle.life.specs.Lives.{Lives, look, altered, erase}
use Rattle.life.specs.Rules.{Wanted, acting_rows, new_life, modified, cancelled}

-- ---- What is held

-- how many lives may be held; the entities, contracts and files, each in the order in which they came; the lives held
pub record Book : Type 0 where
  pub capacity : ℕ
  pub entities : List Bytes
  pub contracts : List Contract
  pub files : List File
  pub lives : Lives

abbrev pub empty_book : ℕ → Book
empty_book n = record { capacity = n; entities = []; contracts = []; files = []; lives = [] }

abbrev pub with_entities : Book → List Bytes → Book
with_entities b es = record b { entities = es }

abbrev pub with_contracts : Book → List Contract → Book
with_contracts b cs = record b { contracts = cs }

abbrev pub with_files : Book → List File → Book
with_files b fs = record b { files = fs }

abbrev pub with_lives : Book → Lives → Book
with_lives b ls = record b { lives = ls }

-- ---- Calls and answers

-- calls on a file say which one, by its number in the order of naming, from 0
pub data Call : Type 0 where
  AddEntity AddContract NameFile : Bytes → Call
  Identify : ℕ → Bytes → Call
  Withdraw Close : ℕ → Call
  Judge : ℕ → Bytes → Call
  LookUp : Bytes → Call
  Total : Call

-- a refusal has a number, a field (0 for none) and the offset of that field; a receipt has the lines judged, accepted and refused
pub data Answer : Type 0 where
  Accepted : Answer
  Refused : ℕ → ℕ → ℕ → Answer
  Receipt : ℕ → ℕ → ℕ → Answer
  Found : Option LifeParts → Answer

-- ---- What a line says

abbrev pub told_by : List Contract → Bytes → Told
told_by cs bs = told cs (report (fields bs))

abbrev pub key_of : Told → KeyParts
key_of x = record {
  of_kind = x.says.kind;
  of_id = x.says.id;
  of_contract = contract_number x;
  of_venue = x.says.venue;
  of_participant = x.says.participant;
  of_side = x.says.side;
}

abbrev pub wanted : Lives → Told → Wanted
wanted ls x = record { does = x.says.action; when = x.says.time; held = look (key_of x) ls }

-- as many lives are held as there may be
abbrev pub is_full : Book → Bool
is_full b = nat_le b.capacity (length b.lives)

-- ---- The table of judging and that of looking up

-- what the rows of judging may look at: the file; the line; what it says, and the contract under its id; the life of its key;
-- whether the lives held are as many as there may be
pub record Asked : Type 0 where
  pub in_file : File
  pub line : Bytes
  pub of_list : Told
  pub of_life : Wanted
  pub full : Bool

abbrev pub asked : Book → ℕ → Bytes → Asked
asked b n bs = record {
  in_file = file_of b.files n;
  line = bs;
  of_list = told_by b.contracts bs;
  of_life = wanted b.lives (told_by b.contracts bs);
  full = is_full b;
}

-- 66, 9; 1, 2, 11 to 21; 31 to 33; 41 to 46; 47
abbrev pub judging_rows : List (Row Asked)
judging_rows =
    looking_at (λ x. x.in_file) taking_rows
    ++ (looking_at (λ x. x.line) line_rows
    ++ (looking_at (λ x. x.of_list) market_rows
    ++ looking_at (λ x. (x.of_life, x.full)) acting_rows))

-- 1, 2, 11 to 21; 31 to 33
abbrev pub looking_rows : List (Row (Bytes × Told))
looking_rows = looking_at (λ x. x.0) line_rows ++ looking_at (λ x. x.1) market_rows

-- ---- The first row that fits a call and what the book holds

abbrev pub verdict : Book → Call → Option (ℕ × ℕ)
verdict b (AddEntity bs) = first_fit entity_rows (b.entities, bs)
verdict b (AddContract bs) = first_fit contract_rows (b.contracts, bs)
verdict b (NameFile bs) = first_fit naming_rows bs
verdict b (Identify n bs) = first_fit identifying_rows (b.entities, file_of b.files n, bs)
verdict b (Withdraw n) = first_fit withdrawing_rows (file_of b.files n)
verdict b (Close n) = first_fit closing_rows (file_of b.files n)
verdict b (Judge n bs) = first_fit judging_rows (asked b n bs)
verdict b (LookUp bs) = first_fit looking_rows (bs, told_by b.contracts bs)
verdict b Total = None

-- ---- What a call does

-- what an accepted action does: New enters an open life, Modify and Cancel change it where it stands, Error takes it out
abbrev pub acted : Action → KeyParts → ℕ → ℕ → Option ℤ → Lives → Lives
acted New k t q p ls = (k, new_life t q p) ∷ ls
acted Modify k t q p ls = altered k (modified t q p) ls
acted Error k t q p ls = erase k ls
acted Cancel k t q p ls = altered k (cancelled t) ls

abbrev pub applied : KeyParts → Reported → Lives → Lives
applied k r ls = acted r.action k r.time r.quantity r.price ls

abbrev pub accepted_line : Told → Lives → Lives
accepted_line x ls = applied (key_of x) x.says ls

abbrev pub put_file : Book → ℕ → File → Book
put_file b n f = with_files b (slice_set b.files n f)

-- a refused line counts, unless its file takes none
abbrev pub refused_in : File → File
refused_in f = cond (is_some (first_fit taking_rows f)) f (one_refused f)

-- the book after a call that no row fits
abbrev pub done : Book → Call → Book
done b (AddEntity bs) = with_entities b (b.entities ++ bs ∷ [])
done b (AddContract bs) = with_contracts b (b.contracts ++ offered bs ∷ [])
done b (NameFile bs) = with_files b (b.files ++ named_file (value [] (name_form bs)) ∷ [])
done b (Identify n bs) = put_file b n (at_stage Identified (file_of b.files n))
done b (Withdraw n) = put_file b n (at_stage Ended (file_of b.files n))
done b (Close n) = put_file b n (at_stage Ended (file_of b.files n))
done b (Judge n bs) = put_file (with_lives b (accepted_line (told_by b.contracts bs) b.lives)) n (one_accepted (file_of b.files n))
done b _ = b

-- and after one that is refused: a line counts in its file, and nothing else changes
abbrev pub undone : Book → Call → Book
undone b (Judge n bs) = put_file b n (refused_in (file_of b.files n))
undone b _ = b

abbrev pub changed : Book → Call → Option (ℕ × ℕ) → Book
changed b c None = done b c
changed b c (Some r) = undone b c

abbrev pub after : Book → Call → Book
after b c = changed b c (verdict b c)

-- ---- What a call is answered

-- the text whose fields a refusal of the call names
abbrev pub text_of : Call → Bytes
text_of (AddEntity bs) = bs
text_of (AddContract bs) = bs
text_of (NameFile bs) = bs
text_of (Identify n bs) = bs
text_of (Judge n bs) = bs
text_of (LookUp bs) = bs
text_of _ = []

abbrev pub receipt : File → Answer
receipt f = Receipt f.judged f.accepted f.refused

-- the answer to a call that no row fits; the total itself is told apart (`totals` in Totals.antt)
abbrev pub granted : Book → Call → Answer
granted b (Withdraw n) = receipt (file_of b.files n)
granted b (Close n) = receipt (file_of b.files n)
granted b (LookUp bs) = Found (look (key_of (told_by b.contracts bs)) b.lives)
granted b _ = Accepted

abbrev pub answered : Book → Call → Option (ℕ × ℕ) → Answer
answered b c None = granted b c
answered b c (Some r) = Refused r.0 r.1 (start r.1 (fields (text_of c)))

abbrev pub answer : Book → Call → Answer
answer b c = answered b c (verdict b c)

-- ---- Runs

-- the book that a run ends in
abbrev pub end : Book → List Call → Book
end b [] = b
end b (c ∷ cs) = end (after b c) cs

-- the answers of a run
abbrev pub answers : Book → List Call → List Answer
answers b [] = []
answers b (c ∷ cs) = answer b c ∷ answers (after b c) cs
