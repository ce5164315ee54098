-- Judging a line, from its file over its text and contract to its life, is the book's table of judging.
use Rattle.measure.specs.declared.measure.Measure.{Ghosts}
use Rattle.std.proofs.Common.{◌≡◌, ℕ, Bool, cond, ◌&&◌, leb, List, [], ◌∷◌, length, set, is_some, is_ok, IsErrAnd, Some, None, Ok, Err, Option, Result, sym, refl, ap, ◌∙◌, subst, arith}
use Rattle.std.proofs.lemmas.Result.{err_from_is_err_and}
use Rattle.text.specs.declared.words.Kind.{Kind}
use Rattle.text.specs.Bytes.{Bytes, start}
use Rattle.text.specs.Rows.{row, first_fit, fields, settled_by}
use Rattle.text.proofs.Tables.{or_else, one_fitted}
use Rattle.line.specs.Lines.{line_rows}
use Rattle.contract.specs.ContractList.{Told, market_rows}
use Rattle.calls.specs.declared.files.faults.TakeFault.{TakeFault}
use Rattle.calls.specs.FileAnswers.{take_refusal}
use Rattle.calls.specs.FileFaults.{take_number}
use Rattle.filing.specs.Files.{File, taking_rows, one_accepted}
use Rattle.calls.specs.FilesAfter.{file_of, counted}
use Rattle.life.specs.Parts.{key_parts, life_parts}
use Rattle.life.specs.Lives.{look, Same}
use Rattle.life.specs.Rules.{Wanted, is_new, life_rows}
use Rattle.claims.specs.declared.claimed.Claim as code
use Rattle.claims.specs.declared.faults.LineFault.{LineFault}
use Rattle.claims.specs.Claims.{Claimed, claimed_by, claiming}
use Rattle.claims.specs.Faults.{line_fault_number, line_fault_field, line_fault_offset}
use Rattle.claims.specs.Made.{claim_of, claim_in}
use Rattle.register.specs.declared.faults.ActFault.{ActFault}
use Rattle.register.specs.Faults.{act_field, refused_by}
use Rattle.register.specs.Judged.{act_refusal, lives_after}
use Rattle.book.specs.Book.{Book, with_files, Judge, Refused, told_by, key_of, wanted, looking_rows, verdict, changed, after, answered, answer}
use Rattle.book.proofs.Tables.{fit_parts, judging_parts, looking_parts, passed}
use Rattle.calls.specs.declared.faults.JudgeFault.{JudgeFault}
use Rattle.calls.specs.declared.faults.JudgeFault.TheVariants as fault
use Rattle.calls.specs.Follows.{book_total}
use Rattle.calls.specs.Said.{judge_answer}
use Rattle.calls.specs.Steps.{Step, Tried}

or_else_assoc : {X : Type 0} (x y z : Option X) → or_else x (or_else y z) ≡ or_else (or_else x y) z
or_else_assoc None y z = refl
or_else_assoc (Some a) y z = refl

-- the refusal of a read line by the lives
abbrev pub by_lives : Book → Told → Option (ℕ × ℕ)
by_lives b x = act_refusal b.capacity (key_of x) x.says.action (claimed_by x).tells b.lives

-- a line is refused by its file's rows, else by its text's and contract's, else by those of the lives
pub line_verdict : (b : Book) (n : ℕ) (bs : Bytes) →
    verdict b (Judge n bs) ≡ or_else (first_fit taking_rows (file_of b.files n)) (or_else (first_fit looking_rows (bs, told_by b.contracts bs)) (by_lives b (told_by b.contracts bs)))
line_verdict b n bs =
    let x : Told = told_by b.contracts bs in
    let lives : by_lives b x ≡ or_else (first_fit life_rows (wanted b.lives x)) (cond (is_new x.says.action && leb b.capacity (length b.lives)) (Some (47, 0)) None) =
    fit_parts {Y = Wanted × Bool} (λ y. y.0) life_rows (row 47 0 (λ y. is_new y.0.does && y.1) ∷ []) (wanted b.lives x, leb b.capacity (length b.lives)) in
    judging_parts b n bs
    ∙ ap (or_else (first_fit taking_rows (file_of b.files n)))
    (ap (λ y. or_else (first_fit line_rows bs) (or_else (first_fit market_rows x) y)) (sym lives)
    ∙ or_else_assoc (first_fit line_rows bs) (first_fit market_rows x) (by_lives b x)
    ∙ ap (λ y. or_else y (by_lives b x)) (sym (looking_parts b bs)))

-- what a claim tells of the rows of text and contract
no_claim : (bs : Bytes) (v : Claimed) (x : LineFault) (o : Option (ℕ × ℕ)) → claim_in (Err x) ≡ settled_by bs v o →
    (o ≡ Some (line_fault_number x, line_fault_field x)) × (judge_answer (Err (fault.Line x)) ≡ Refused (line_fault_number x) (line_fault_field x) (start (line_fault_field x) (fields bs)))
no_claim bs v x o e =
    let w = one_fitted bs v (line_fault_number x) (line_fault_field x) (line_fault_offset x) o e in
    (w.0, ap (Refused (line_fault_number x) (line_fault_field x)) w.1)

a_claim : (bs : Bytes) (v : Claimed) (c : code.Claim) (o : Option (ℕ × ℕ)) → claim_in (Ok c) ≡ settled_by bs v o → (o ≡ None) × (claim_of c ≡ v)
a_claim bs v c None e = (refl, cc)
a_claim bs v c (Some r) e = let z : ◌≡◌ {A = ℕ} 0 1 = cc in absurd (omega arith)

-- the answer of an action, where the field at fault starts at its offset
abbrev pub acted_result : Kind → Bytes → Result (Unit {0}) ActFault → Result (Unit {0}) JudgeFault
acted_result kind bs (Ok u) = Ok u
acted_result kind bs (Err e) = Err (fault.Act e kind (start (act_field e) (fields bs)))

module _ {V : Type 0} (weighing : Ghosts V) where
  -- a refused line changes nothing
  line_refused : (was : Book) (t : V) (n : ℕ) (bs : Bytes) (r : ℕ × ℕ) → verdict was (Judge n bs) ≡ Some r → Tried weighing was t n bs (Refused r.0 r.1 (start r.1 (fields bs))) was t
  line_refused was t n bs r e = record {
    says = ap (answered was (Judge n bs)) (sym e);
    keeps_capacity = refl;
    keeps_entities = refl;
    keeps_contracts = refl;
    keeps_files = refl;
    makes_lives = λ j. ap (λ v. look j (changed was (Judge n bs) v).lives) (sym e);
    keeps_sum = λ h. h;
  }

  file_refuses : (was : Book) (t : V) (n : ℕ) (bs : Bytes) (x : TakeFault) → take_refusal {V = Unit {0}} (Err x) ≡ first_fit taking_rows (file_of was.files n) →
      Tried weighing was t n bs (judge_answer (Err (fault.File x))) was t
  file_refuses was t n bs x e =
      line_refused was t n bs (take_number x, 0) (line_verdict was n bs ∙ ap (λ o. or_else o (or_else (first_fit looking_rows (bs, told_by was.contracts bs)) (by_lives was (told_by was.contracts bs)))) (sym e))

  line_refuses : (was : Book) (t : V) (n : ℕ) (bs : Bytes) (x : LineFault) → None ≡ first_fit taking_rows (file_of was.files n) → claim_in (Err x) ≡ claiming was.contracts bs →
      Tried weighing was t n bs (judge_answer (Err (fault.Line x))) was t
  line_refuses was t n bs x free e =
      let y : Told = told_by was.contracts bs in
      let why = no_claim bs (claimed_by y) x (first_fit looking_rows (bs, y)) e in
      let v : verdict was (Judge n bs) ≡ Some (line_fault_number x, line_fault_field x) =
      line_verdict was n bs ∙ ap (λ o. or_else o (or_else (first_fit looking_rows (bs, y)) (by_lives was y))) (sym free) ∙ ap (λ o. or_else o (by_lives was y)) why.0 in
      subst (λ a. Tried weighing was t n bs a was t) (sym why.1) (line_refused was t n bs (line_fault_number x, line_fault_field x) v)

  -- the lives decide
  acted_so : (was : Book) (n : ℕ) (bs : Bytes) (kind : Kind) (r : Result (Unit {0}) ActFault) (v : Option (ℕ × ℕ)) → verdict was (Judge n bs) ≡ v → refused_by r ≡ v →
      judge_answer (acted_result kind bs r) ≡ answer was (Judge n bs)
  acted_so was n bs kind (Ok u) v e f = ap (answered was (Judge n bs)) (f ∙ sym e)
  acted_so was n bs kind (Err x) v e f = ap (answered was (Judge n bs)) (f ∙ sym e)

  lives_so : (was : Book) (n : ℕ) (bs : Bytes) (v : Option (ℕ × ℕ)) →
      let x = told_by was.contracts bs in
      lives_after v (key_of x) x.says.action (claimed_by x).tells was.lives ≡ (changed was (Judge n bs) v).lives
  lives_so was n bs None = refl
  lives_so was n bs (Some r) = refl

  pub lives_decide : (was is : Book) (t s : V) (n : ℕ) (bs : Bytes) (c : code.Claim) (kind : Kind) (r : Result (Unit {0}) ActFault) →
      None ≡ first_fit taking_rows (file_of was.files n) → claim_in (Ok c) ≡ claiming was.contracts bs →
      is.entities ≡ was.entities → is.contracts ≡ was.contracts → is.files ≡ was.files → is.capacity ≡ was.capacity →
      refused_by r ≡ act_refusal was.capacity (key_parts c.key) c.action (life_parts c.told) was.lives →
      Same is.lives (lives_after (act_refusal was.capacity (key_parts c.key) c.action (life_parts c.told) was.lives) (key_parts c.key) c.action (life_parts c.told) was.lives) →
      (t ≡ book_total weighing was → s ≡ book_total weighing is) →
      Tried weighing was t n bs (judge_answer (acted_result kind bs r)) is s
  lives_decide was is t s n bs c kind r free e entities contracts files size answers holds sums =
      let y : Told = told_by was.contracts bs in
      let claim = a_claim bs (claimed_by y) c (first_fit looking_rows (bs, y)) e in
      let v : verdict was (Judge n bs) ≡ by_lives was y =
      line_verdict was n bs ∙ ap (λ o. or_else o (or_else (first_fit looking_rows (bs, y)) (by_lives was y))) (sym free) ∙ ap (λ o. or_else o (by_lives was y)) claim.0 in
      let same : act_refusal was.capacity (key_parts c.key) c.action (life_parts c.told) was.lives ≡ by_lives was y =
      ap (λ q. act_refusal was.capacity q.of_key q.acts q.tells was.lives) claim.1 in
      let lives : lives_after (act_refusal was.capacity (key_parts c.key) c.action (life_parts c.told) was.lives) (key_parts c.key) c.action (life_parts c.told) was.lives ≡ (after was (Judge n bs)).lives =
      ap (λ q. lives_after (act_refusal was.capacity q.of_key q.acts q.tells was.lives) q.of_key q.acts q.tells was.lives) claim.1
      ∙ ap (λ o. lives_after o (key_of y) y.says.action (claimed_by y).tells was.lives) (sym v)
      ∙ lives_so was n bs (verdict was (Judge n bs)) in
      record {
        says = acted_so was n bs kind r (by_lives was y) v (answers ∙ same);
        keeps_capacity = size;
        keeps_entities = entities;
        keeps_contracts = contracts;
        keeps_files = files;
        makes_lives = λ j. holds j ∙ ap (look j) lives;
        keeps_sum = sums;
      }

  -- the line is counted in its file
  counted_so : (was : Book) (n : ℕ) (bs : Bytes) (r : Result (Unit {0}) JudgeFault) (v : Option (ℕ × ℕ)) → verdict was (Judge n bs) ≡ v → judge_answer r ≡ answered was (Judge n bs) v →
      set was.files n (counted (is_ok r) (file_of was.files n)) ≡ (changed was (Judge n bs) v).files
  counted_so was n bs (Ok u) None e a =
      ap (λ o. set was.files n (cond (is_some o) (file_of was.files n) (one_accepted (file_of was.files n)))) (passed was n bs e).takes
  counted_so was n bs (Err x) None e a = let z : ◌≡◌ {A = ℕ} 0 1 = cc in absurd (omega arith)
  counted_so was n bs (Ok u) (Some y) e a = let z : ◌≡◌ {A = ℕ} 0 1 = cc in absurd (omega arith)
  counted_so was n bs (Err x) (Some y) e a = refl

  pub counted_step : (was mid : Book) (t s : V) (n : ℕ) (bs : Bytes) (r : Result (Unit {0}) JudgeFault) (ok : Bool) (fs : List File) →
      Tried weighing was t n bs (judge_answer r) mid s → ok ≡ is_ok r → fs ≡ set mid.files n (counted ok (file_of mid.files n)) →
      Step weighing was t (Judge n bs) (judge_answer r) (with_files mid fs) s
  counted_step was mid t s n bs r ok fs h o l = record {
    says = h.says;
    keeps_capacity = h.keeps_capacity;
    makes_entities = h.keeps_entities ∙ by_entities (verdict was (Judge n bs));
    makes_contracts = h.keeps_contracts ∙ by_contracts (verdict was (Judge n bs));
    makes_files =
        l
        ∙ ap (λ gs. set gs n (counted ok (file_of gs n))) h.keeps_files
        ∙ ap (λ b. set was.files n (counted b (file_of was.files n))) o
        ∙ counted_so was n bs r (verdict was (Judge n bs)) refl h.says;
    makes_lives = h.makes_lives;
    keeps_sum = h.keeps_sum;
  }
    where
      by_entities : (v : Option (ℕ × ℕ)) → was.entities ≡ (changed was (Judge n bs) v).entities
      by_entities None = refl
      by_entities (Some y) = refl

      by_contracts : (v : Option (ℕ × ℕ)) → was.contracts ≡ (changed was (Judge n bs) v).contracts
      by_contracts None = refl
      by_contracts (Some y) = refl

  -- a refusal that `?` hands on
  pub file_refused : (was : Book) (t : V) (n : ℕ) (bs : Bytes) (r : Result (Unit {0}) JudgeFault) (x : TakeFault) → IsErrAnd r (λ y. y ≡ fault.File x) → take_refusal {V = Unit {0}} (Err x) ≡ first_fit taking_rows (file_of was.files n) →
      Tried weighing was t n bs (judge_answer r) was t
  file_refused was t n bs r x h e =
      let p = err_from_is_err_and r h in
      subst (λ y. Tried weighing was t n bs (judge_answer y) was t) (sym (p.1 ∙ ap Err p.2)) (file_refuses was t n bs x e)

  pub text_refused : (was : Book) (t : V) (n : ℕ) (bs : Bytes) (r : Result (Unit {0}) JudgeFault) (x : LineFault) → IsErrAnd r (λ y. y ≡ fault.Line x) → None ≡ first_fit taking_rows (file_of was.files n) → claim_in (Err x) ≡ claiming was.contracts bs →
      Tried weighing was t n bs (judge_answer r) was t
  text_refused was t n bs r x h free e =
      let p = err_from_is_err_and r h in
      subst (λ y. Tried weighing was t n bs (judge_answer y) was t) (sym (p.1 ∙ ap Err p.2)) (line_refuses was t n bs x free e)
