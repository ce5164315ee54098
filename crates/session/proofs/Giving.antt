-- The calls that the lines of an input make, one after another.
use Rattle.measure.specs.declared.measure.Measure.{Ghosts}
use Rattle.std.proofs.Common.{◌≡◌, ℕ, List, [], ◌∷◌, ◌++◌, length, take, Some, None, Option, sym}
use Rattle.std.proofs.Common.{refl, ap, ◌∙◌, subst, append_assoc, append-nil, arith}
use Rattle.std.proofs.Math.Seq.{take-append_seam}
use Rattle.std.proofs.lemmas.List.{take_all}
use Rattle.text.specs.Bytes.{Bytes}
use Rattle.book.specs.Book.{empty_book, Call}
use Rattle.book.proofs.Runs.{end_append}
use Rattle.calls.specs.declared.checker.Checker.{Checker}
use Rattle.calls.specs.Follows.{book_after}
use Rattle.calls.specs.Held.{Led, Stays}
use Rattle.session.specs.Held.{GivenLines}
use Rattle.session.specs.SessionLaw.{GivenPart}
use Rattle.session.specs.Session.{InHand, NoFile, ending, call_of_line, book_with, in_hand_after}
use Rattle.session.specs.Session.{listed, calls_of_lines, lines_of}
use Rattle.session.proofs.SessionFiles.{given_files_end}

book_made : (capacity : ℕ) (past : List Call) (c : Option Call) → book_with (book_after capacity past) c ≡ book_after capacity (past ++ listed c)
book_made capacity past None = ap (book_after capacity) (sym (append-nil past))
book_made capacity past (Some c) = sym (end_append past (c ∷ []) (empty_book capacity))

module _ {S M : Type 0} (weighing : Ghosts M) where
  -- after `past`, the `given` calls lead to this checker, with this file in hand; they are those of
  -- the lines read, whatever lines come after these
  pub record Given (capacity : ℕ) (past : List Call) (read : List Bytes) (given : List Call)
      (checker : Checker S M) (h : InHand) : Type 0 where
    pub led : Led weighing capacity (past ++ given) checker
    pub calls : (more : List Bytes) →
        calls_of_lines (book_after capacity past) NoFile (read ++ more)
        ≡ given ++ calls_of_lines (book_after capacity (past ++ given)) h more

  module _ (capacity : ℕ) (past : List Call) where
    pub given_none : (checker : Checker S M) → Led weighing capacity past checker →
        Given capacity past [] [] checker NoFile
    given_none checker f =
        let same : past ≡ past ++ [] = sym (append-nil past) in
        record {
          led = subst (λ p. Led weighing capacity p checker) same f;
          calls = λ more. ap (λ p. calls_of_lines (book_after capacity p) NoFile more) same;
        }

    -- one line more
    pub given_line : (read : List Bytes) (given : List Call) (at is : Checker S M)
        (h next : InHand) (line : Bytes) → Given capacity past read given at h →
        ((before : List Call) → Led weighing capacity before at →
        (next ≡ in_hand_after (book_after capacity before) h (call_of_line h line)) × Led weighing capacity (before ++ listed (call_of_line h line)) is) →
        Given capacity past (read ++ line ∷ []) (given ++ listed (call_of_line h line)) is next
    given_line read given at is h next line so goes =
        let before = past ++ given in
        let c = call_of_line h line in
        let step = goes before so.led in
        let joined : before ++ listed c ≡ past ++ (given ++ listed c) = append_assoc past given (listed c) in
        let books = book_made capacity before c ∙ ap (book_after capacity) joined in
        let later : (more : List Bytes) →
        calls_of_lines (book_after capacity before) h (line ∷ more)
        ≡ listed c ++ calls_of_lines (book_after capacity (past ++ (given ++ listed c))) next more =
        λ more i. listed c ++ calls_of_lines (books i) (sym step.0 i) more in
        record {
          led = subst (λ p. Led weighing capacity p is) joined step.1;
          calls = λ more.
              ap (calls_of_lines (book_after capacity past) NoFile)
              (append_assoc read (line ∷ []) more)
              ∙ so.calls (line ∷ more)
              ∙ ap (λ cs. given ++ cs) (later more)
              ∙ sym (append_assoc given (listed c) _);
        }

    -- the lines read, and the call that ends the file in hand at last
    pub given_all : (read : List Bytes) (given : List Call) (at : Checker S M) (h : InHand) →
        Given capacity past read given at h →
        calls_of_lines (book_after capacity past) NoFile read ≡ given ++ listed (ending h)
    given_all read given at h so =
        ap (calls_of_lines (book_after capacity past) NoFile) (sym (append-nil read)) ∙ so.calls []

  -- ---- For every list of calls that led to a checker

  -- the lines of the input are those read, which lead to `is` with this file in hand, and then
  -- those of the rest
  pub record Under (was : Checker S M) (input : Bytes) (is : Checker S M) (h : InHand)
      (rest : Bytes) : Type 0 where
    pub read : List Bytes
    pub parts : lines_of input ≡ read ++ lines_of rest
    pub gives : (capacity : ℕ) (past : List Call) → Led weighing capacity past was →
        (given : List Call) × Given capacity past read given is h

  pub under_first : (was : Checker S M) (input : Bytes) → Under was input was NoFile input
  under_first was input = record {
    read = [];
    parts = refl;
    gives =
        λ capacity past f. ([], given_none capacity past was f);
  }

  pub under_line : (was at is : Checker S M) (input : Bytes) (h next : InHand) (rest line more : Bytes) → lines_of rest ≡ line ∷ lines_of more → Under was input at h rest →
      ((capacity : ℕ) (past : List Call) → Led weighing capacity past at →
      (next ≡ in_hand_after (book_after capacity past) h (call_of_line h line)) × Led weighing capacity (past ++ listed (call_of_line h line)) is) →
      Under was input is next more
  under_line was at is input h next rest line more e u goes = record {
    read = u.read ++ line ∷ [];
    parts = u.parts ∙ ap (λ ls. u.read ++ ls) e
        ∙ sym (append_assoc u.read (line ∷ []) (lines_of more));
    gives = λ capacity past f.
        let so = u.gives capacity past f in (
          so.0 ++ listed (call_of_line h line),
          given_line capacity past u.read so.0 at is h next
              line so.1 (goes capacity),
        );
  }

  -- nothing changes
  pub under_same : (was at is : Checker S M) (input : Bytes) (h next : InHand) (rest : Bytes) →
      Under was input at h rest → next ≡ h → Stays weighing at is → Under was input is next rest
  under_same was at is input h next rest u e stays = record {
    read = u.read;
    parts = u.parts;
    gives = λ capacity past f.
        let so = u.gives capacity past f in (
          so.0,
          subst (λ hand. Given capacity past u.read so.0 is hand) (sym e) (record {
            led =
                stays capacity (past ++ so.0) so.1.led;
            calls = so.1.calls;
          }),
        );
  }

  abbrev Ends : Checker S M → InHand → Checker S M → Type 0
  Ends at h is = (capacity : ℕ) (past : List Call) → Led weighing capacity past at →
      Led weighing capacity (past ++ listed (ending h)) is

  -- the file in hand is ended after the lines read
  under_read : (was at is : Checker S M) (input : Bytes) (h : InHand) (rest : Bytes)
      (u : Under was input at h rest) → Ends at h is → GivenLines weighing was u.read is
  under_read was at is input h rest u ends capacity past f =
      let so = u.gives capacity past f in
      subst (λ p. Led weighing capacity p is) (append_assoc past so.0 (listed (ending h))
      ∙ ap (λ cs. past ++ cs) (sym (given_all capacity past u.read so.0 at h so.1)))
      (ends capacity (past ++ so.0) so.1.led)

  pub under_all : (was at is : Checker S M) (input : Bytes) (h : InHand) (rest : Bytes) →
      lines_of rest ≡ [] → Under was input at h rest → Ends at h is →
      GivenLines weighing was (lines_of input) is
  under_all was at is input h rest e u ends =
      subst (λ lines. GivenLines weighing was lines is) (sym (u.parts ∙ ap (λ ls. u.read ++ ls) e
      ∙ append-nil u.read))
      (under_read was at is input h rest u ends)

  pub under_some : (was at is : Checker S M) (input : Bytes) (h : InHand) (rest : Bytes) →
      Under was input at h rest → Ends at h is →
      GivenPart weighing was input is
  under_some was at is input h rest u ends =
      let k = length u.read in
      let first : take k (lines_of input) ≡ u.read = ap (take k) u.parts
      ∙ take-append_seam u.read (lines_of rest) in
      let given = subst (λ lines. GivenLines weighing was lines is) (sym first)
      (under_read was at is input h rest u ends) in
      (k, given, given_files_end weighing was is (take k (lines_of input)) given)

  pub part_of_all : (was is : Checker S M) (input : Bytes) →
      GivenLines weighing was (lines_of input) is → GivenPart weighing was input is
  part_of_all was is input given =
      let k = length (lines_of input) in
      let all : take k (lines_of input) ≡ lines_of input =
      take_all k (lines_of input) (omega arith) in
      let same = subst (λ lines. GivenLines weighing was lines is) (sym all) given in
      (k, same, given_files_end weighing was is (take k (lines_of input)) same)
