-- Each file that a session names ends in it, with one receipt.
use Rattle.measure.specs.declared.measure.Measure.{Ghosts}
use Rattle.std.proofs.Common.{◌≡◌, ℕ, suc, cond, not, List, [], ◌∷◌, ◌++◌}
use Rattle.std.proofs.Common.{length, set, get_or, is_some, Some, None, Option, zip, sym, refl, ap}
use Rattle.std.proofs.Common.{◌∙◌, subst, append_assoc, append-nil, arith}
use Rattle.std.specs.List.{AllByRecursion}
use Rattle.std.proofs.Math.Seq.{get_or-append_seam, set-append_seam}
use Rattle.std.proofs.lemmas.List.{length_push}
use Rattle.text.specs.Bytes.{Bytes, value, then}
use Rattle.text.specs.Rows.{first_fit}
use Rattle.filing.specs.Names.{name_form}
use Rattle.filing.specs.Files as stage
use Rattle.filing.specs.Files.{Stage, File, named_file, no_file, file_of, at_stage, only_named}
use Rattle.filing.specs.Files.{identified, taking_rows, one_accepted, one_refused}
use Rattle.commands.specs.Commands.{CommandParts}
use Rattle.commands.specs.Commands as command
use Rattle.book.specs.Book.{Book, empty_book, Call, AddEntity, AddContract, NameFile}
use Rattle.book.specs.Book.{Identify, Withdraw, Close, Judge, receipt, verdict, refused_in}
use Rattle.book.specs.Book.{changed, after, answered, answer, answers, end}
use Rattle.book.proofs.Runs.{end_append}
use Rattle.calls.specs.declared.checker.Checker.{Checker}
use Rattle.calls.specs.Follows.{book_after}
use Rattle.calls.specs.Held.{book_in}
use Rattle.session.specs.Session.{InHand, NoFile, OnlyNamed, Identified, call_by}
use Rattle.session.specs.Session.{command_in, in_hand_after_call, in_hand_after, book_with, listed}
use Rattle.session.specs.Session.{calls_of_lines}
use Rattle.session.specs.Held.{GivenLines}
use Rattle.session.specs.SessionLaw.{given_by, receipts_given, receipts_from, EndsItsFiles}
use Rattle.session.specs.SessionLaw.{FilesEnd}

-- ---- The files and the one in hand

-- the last file, which comes after `others`, is in hand, at this stage
record InHandAt (others : List File) (n : ℕ) (s : Stage) (files : List File) : Type 0 where
  last : File
  after_others : files ≡ others ++ last ∷ []
  its_number : n ≡ length others
  its_stage : last.stage ≡ s

abbrev Holds : List File → InHand → List File → Type 0
Holds others NoFile files = files ≡ others
Holds others (OnlyNamed n) files = InHandAt others n stage.Named files
Holds others (Identified n) files = InHandAt others n stage.Identified files

module _ (others : List File) (n : ℕ) (s : Stage) (files : List File)
    (h : InHandAt others n s files) where
  its_file : file_of files n ≡ h.last
  its_file =
      (λ i. get_or (h.after_others i) (h.its_number i) no_file)
      ∙ get_or-append_seam others h.last [] no_file

  put_last : (f : File) → set files n f ≡ others ++ f ∷ []
  put_last f =
      (λ i. set (h.after_others i) (h.its_number i) f) ∙ set-append_seam others h.last [] f

  staged : (t : Stage) (f : File) → f.stage ≡ t → InHandAt others n t (set files n f)
  staged t f e = record {
    last = f;
    after_others = put_last f;
    its_number = h.its_number;
    its_stage = e;
  }

-- ---- What calls lead to

-- the same as `EndsItsFiles`, where a file may be in hand, after `others`
record Leads (others : List File) (b : Book) (calls : List Call) : Type 0 where
  named : List File
  after_others : (end b calls).files ≡ others ++ named
  each_ended : AllByRecursion (λ f. f.stage ≡ stage.Ended) named
  one_receipt : receipts_given (zip calls (answers b calls)) ≡ receipts_from (length others) named

no_calls : (others : List File) (b : Book) → b.files ≡ others → Leads others b []
no_calls others b e = record {
  named = [];
  after_others = e ∙ sym (append-nil others);
  each_ended = tt;
  one_receipt = refl;
}

-- a call that gives no receipt
no_receipt : (others : List File) (b : Book) (c : Call) (cs : List Call) →
    given_by c (answer b c) ≡ [] → Leads others (after b c) cs → Leads others b (c ∷ cs)
no_receipt others b c cs none more = record {
  named = more.named;
  after_others = more.after_others;
  each_ended = more.each_ended;
  one_receipt =
      ap (λ rs. rs ++ receipts_given (zip cs (answers (after b c) cs))) none ∙ more.one_receipt;
}

one_longer : (fs : List File) (f : File) → length (fs ++ f ∷ []) ≡ suc (length fs)
one_longer fs f = omega (arith, length_push fs f)

-- a call that ends the file in hand
ends_last : (others : List File) (b : Book) (c : Call) (cs : List Call) (f : File) →
    f.stage ≡ stage.Ended → given_by c (answer b c) ≡ (length others, receipt f) ∷ [] →
    Leads (others ++ f ∷ []) (after b c) cs → Leads others b (c ∷ cs)
ends_last others b c cs f e given more = record {
  named = f ∷ more.named;
  after_others = more.after_others ∙ append_assoc others (f ∷ []) more.named;
  each_ended = (e, more.each_ended);
  one_receipt =
      ap (λ rs. rs ++ receipts_given (zip cs (answers (after b c) cs))) given
      ∙ ap (λ rs. (length others, receipt f) ∷ rs) (more.one_receipt
      ∙ ap (λ n. receipts_from n more.named) (one_longer others f));
}

-- ---- One call

-- a call that does not end the file in hand gives no receipt, and what is in hand then comes after
-- the same files
record Keeps (others : List File) (b : Book) (h : InHand) (c : Call) : Type 0 where
  none : given_by c (answer b c) ≡ []
  holds : Holds others (in_hand_after_call b h c) (after b c).files

adds_entity : (others : List File) (b : Book) (h : InHand) (bs : Bytes) → Holds others h b.files →
    Keeps others b h (AddEntity bs)
adds_entity others b h bs s = record { none = refl; holds = go (verdict b (AddEntity bs)) }
  where
    go : (v : Option (ℕ × ℕ)) → Holds others h (changed b (AddEntity bs) v).files
    go None = s
    go (Some r) = s

adds_contract : (others : List File) (b : Book) (h : InHand) (bs : Bytes) → Holds others h b.files →
    Keeps others b h (AddContract bs)
adds_contract others b h bs s = record { none = refl; holds = go (verdict b (AddContract bs)) }
  where
    go : (v : Option (ℕ × ℕ)) → Holds others h (changed b (AddContract bs) v).files
    go None = s
    go (Some r) = s

names : (others : List File) (b : Book) (bs : Bytes) → b.files ≡ others →
    Keeps others b NoFile (NameFile bs)
names others b bs e = record { none = refl; holds = go (verdict b (NameFile bs)) }
  where
    go : (v : Option (ℕ × ℕ)) →
        Holds others (cond (is_some v) NoFile (OnlyNamed (length b.files))) (changed b
        (NameFile bs) v).files
    go None = record {
      last = named_file (value [] (name_form bs));
      after_others = ap (λ fs. fs ++ named_file (value [] (name_form bs)) ∷ []) e;
      its_number = ap length e;
      its_stage = refl;
    }
    go (Some r) = e

identifies : (others : List File) (b : Book) (n : ℕ) (bs : Bytes) →
    InHandAt others n stage.Named b.files → Keeps others b (OnlyNamed n) (Identify n bs)
identifies others b n bs s = record { none = refl; holds = go (verdict b (Identify n bs)) }
  where
    go : (v : Option (ℕ × ℕ)) →
        Holds others (cond (is_some v) (OnlyNamed n) (Identified n)) (changed b
        (Identify n bs) v).files
    go None = staged others n stage.Named b.files s stage.Identified _ refl
    go (Some r) = s

refused_stage : (f : File) → (refused_in f).stage ≡ f.stage
refused_stage f = go (first_fit taking_rows f)
  where
    go : (o : Option (ℕ × ℕ)) → (cond (is_some o) f (one_refused f)).stage ≡ f.stage
    go None = refl
    go (Some r) = refl

judges : (others : List File) (b : Book) (n : ℕ) (bs : Bytes) →
    InHandAt others n stage.Identified b.files → Keeps others b (Identified n) (Judge n bs)
judges others b n bs s = record { none = refl; holds = go (verdict b (Judge n bs)) }
  where
    same : (file_of b.files n).stage ≡ stage.Identified
    same = ap (λ (f : File). f.stage) (its_file others n stage.Identified b.files s) ∙ s.its_stage

    go : (v : Option (ℕ × ℕ)) → InHandAt others n stage.Identified (changed b (Judge n bs) v).files
    go None = staged others n stage.Identified b.files s stage.Identified _ same
    go (Some r) =
        staged others n stage.Identified b.files s stage.Identified _ (refused_stage
        (file_of b.files n) ∙ same)

-- after the file in hand has ended there is none
abbrev Afterwards : Book → Call → List Call → Type 0
Afterwards b c cs = (others : List File) → (after b c).files ≡ others → Leads others (after b c) cs

withdraws : (others : List File) (b : Book) (n : ℕ) (cs : List Call) →
    InHandAt others n stage.Named b.files → Afterwards b (Withdraw n) cs →
    Leads others b (Withdraw n ∷ cs)
withdraws others b n cs s more =
    let f = at_stage stage.Ended (file_of b.files n) in
    let at = ap (λ (g : File). g.stage) (its_file others n stage.Named b.files s) ∙ s.its_stage in
    let none : verdict b (Withdraw n) ≡ None =
    ap (λ t. cond (not (only_named t)) (Some (66, 0)) None) at in
    ends_last others b (Withdraw n) cs f refl
    (ap (λ v. given_by (Withdraw n) (answered b (Withdraw n) v)) none
    ∙ ap (λ m. (m, receipt f) ∷ []) s.its_number)
    (more (others ++ f ∷ [])
    (ap (λ v. (changed b (Withdraw n) v).files) none ∙ put_last others n stage.Named b.files s f))

closes : (others : List File) (b : Book) (n : ℕ) (cs : List Call) →
    InHandAt others n stage.Identified b.files → Afterwards b (Close n) cs →
    Leads others b (Close n ∷ cs)
closes others b n cs s more =
    let f = at_stage stage.Ended (file_of b.files n) in
    let at = ap (λ (g : File). g.stage) (its_file others n stage.Identified b.files s)
    ∙ s.its_stage in
    let none : verdict b (Close n) ≡ None =
    ap (λ t. cond (not (identified t)) (Some (66, 0)) None) at in
    ends_last others b (Close n) cs f refl
    (ap (λ v. given_by (Close n) (answered b (Close n) v)) none
    ∙ ap (λ m. (m, receipt f) ∷ []) s.its_number)
    (more (others ++ f ∷ [])
    (ap (λ v. (changed b (Close n) v).files) none ∙ put_last others n stage.Identified b.files s f))

-- ---- Lines, one after another

abbrev Goes : List Bytes → Type 0
Goes lines =
    (others : List File) (b : Book) (h : InHand) → Holds others h b.files →
    Leads others b (calls_of_lines b h lines)

no_lines : Goes []
no_lines others b NoFile s = no_calls others b s
no_lines others b (OnlyNamed n) s = withdraws others b n [] s (λ os e. no_calls os _ e)
no_lines others b (Identified n) s = closes others b n [] s (λ os e. no_calls os _ e)

module _ (lines : List Bytes) (more : Goes lines) (others : List File) (b : Book) where
  after_call : (h : InHand) (c : Call) → Keeps others b h c →
      Leads others b (c ∷ calls_of_lines (after b c) (in_hand_after_call b h c) lines)
  after_call h c k =
      no_receipt others b c _ k.none (more others (after b c) (in_hand_after_call b h c) k.holds)

  after_line : (h : InHand) → Holds others h b.files → (o : Option CommandParts) →
      Leads others b
      (listed (then o (call_by h))
      ++ calls_of_lines (book_with b (then o (call_by h))) (in_hand_after b h (then o
      (call_by h))) lines)
  after_line h s None = more others b h s
  after_line h s (Some (command.AddEntity bs)) =
      after_call h (AddEntity bs) (adds_entity others b h bs s)
  after_line h s (Some (command.AddContract bs)) =
      after_call h (AddContract bs) (adds_contract others b h bs s)
  after_line NoFile s (Some (command.NameFile bs)) =
      after_call NoFile (NameFile bs) (names others b bs s)
  after_line (OnlyNamed n) s (Some (command.NameFile bs)) = more others b (OnlyNamed n) s
  after_line (Identified n) s (Some (command.NameFile bs)) = more others b (Identified n) s
  after_line NoFile s (Some (command.Identify bs)) = more others b NoFile s
  after_line (OnlyNamed n) s (Some (command.Identify bs)) =
      after_call (OnlyNamed n) (Identify n bs) (identifies others b n bs s)
  after_line (Identified n) s (Some (command.Identify bs)) = more others b (Identified n) s
  after_line NoFile s (Some (command.Judge bs)) = more others b NoFile s
  after_line (OnlyNamed n) s (Some (command.Judge bs)) = more others b (OnlyNamed n) s
  after_line (Identified n) s (Some (command.Judge bs)) =
      after_call (Identified n) (Judge n bs) (judges others b n bs s)
  after_line NoFile s (Some command.EndFile) = more others b NoFile s
  after_line (OnlyNamed n) s (Some command.EndFile) =
      withdraws others b n _ s (λ os e. more os (after b (Withdraw n)) NoFile e)
  after_line (Identified n) s (Some command.EndFile) =
      closes others b n _ s (λ os e. more os (after b (Close n)) NoFile e)
  after_line h s (Some command.Positions) = more others b h s
  after_line h s (Some command.CheckWord) = more others b h s

every_line : (lines : List Bytes) → Goes lines
every_line [] = no_lines
every_line (line ∷ lines) =
    λ others b h s. after_line lines (every_line lines) others b h s (command_in line)

-- ---- The law

pub files_end : (b : Book) (lines : List Bytes) →
    EndsItsFiles b (calls_of_lines b NoFile lines) (end b (calls_of_lines b NoFile lines)).files
files_end b lines =
    let l = every_line lines b.files b NoFile refl in
    record {
      named = l.named;
      after_others = l.after_others;
      each_ended = l.each_ended;
      one_receipt = l.one_receipt;
    }

pub given_files_end : {S M : Type 0} (weighing : Ghosts M) (was is : Checker S M)
    (lines : List Bytes) →
    GivenLines weighing was lines is → FilesEnd weighing was lines is
given_files_end weighing was is lines given capacity past f =
    let b = book_after capacity past in
    let calls = calls_of_lines b NoFile lines in
    let same : (book_in is).files ≡ (end b calls).files =
    (given capacity past f).holds.same_files
    ∙ ap (λ (x : Book). x.files) (end_append past calls (empty_book capacity)) in
    subst (EndsItsFiles b calls) (sym same) (files_end b lines)
