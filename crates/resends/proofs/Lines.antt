-- The mark of a call, from its answer and the contracts listed.
use Rattle.std.proofs.Common.{◌≡◌, ℕ, true, false, List, is_err, Some, None, Ok, Err, Option, sym, refl, ap, ◌∙◌, arith, Bor}
use Rattle.text.specs.Bytes.{Bytes}
use Rattle.text.specs.Rows.{first_fit, settled_by}
use Rattle.contract.specs.ContractList.{Contract, Told}
use Rattle.contract.specs.ContractList as contract_list
use Rattle.life.specs.Parts.{key_parts}
use Rattle.life.specs.Rules.{is_error}
use Rattle.claims.specs.declared.claimed.Claim.{Claim}
use Rattle.claims.specs.declared.faults.LineFault.{LineFault}
use Rattle.claims.specs.Claims.{Claimed, claimed_by, claiming}
use Rattle.claims.specs.Made.{claim_of, claim_in}
use Rattle.book.specs.Book.{Book, AddContract, Judge, Accepted, told_by, looking_rows, verdict, changed, answered, answer}
use Rattle.book.specs.Laws.{subject}
use Rattle.book.proofs.Runs.{contracts_after}
use Rattle.book.proofs.Tables.{Passed, passed, looking_parts}
use Rattle.calls.specs.declared.answer.Given.TheVariants as given
use Rattle.calls.specs.declared.call.Call.{Call as Asked}
use Rattle.calls.specs.declared.call.Call.TheVariants as asked
use Rattle.calls.specs.Said.{Spoken, call_said, answer_said}
use Rattle.text.proofs.Tables.{or_else}
use Rattle.resends.specs.Marks.{MarkParts, NoReportLine, RefusedLine, LineOf, marked, mark_in, MarksCall}

module _ (b : Book) (n : ℕ) (bs : Bytes) where
  -- an accepted line is fitted by no row
  accepted_none : (v : Option (ℕ × ℕ)) → Accepted ≡ answered b (Judge n bs) v → v ≡ None
  accepted_none None e = refl
  accepted_none (Some r) e = cc

  said_accepted : (x : Spoken) → answer_said x ≡ Accepted → x ≡ Ok given.Accepted
  said_accepted (Ok given.Accepted) e = refl
  said_accepted (Ok (given.Receipt r)) e = cc
  said_accepted (Ok (given.Found o)) e = cc
  said_accepted (Err f) e = cc

  -- what is given for a line is its acceptance
  pub given_accepted : (x : Spoken) → is_err x ≡ false → answer_said x ≡ answer b (Judge n bs) → Accepted ≡ answer b (Judge n bs)
  given_accepted (Ok given.Accepted) fine e = e
  given_accepted (Ok (given.Receipt r)) fine e = by (verdict b (Judge n bs)) e
    where
      by : (v : Option (ℕ × ℕ)) → answer_said (Ok (given.Receipt r)) ≡ answered b (Judge n bs) v → Accepted ≡ answered b (Judge n bs) v
      by None h = refl
      by (Some q) h = cc
  given_accepted (Ok (given.Found o)) fine e = by (verdict b (Judge n bs)) e
    where
      by : (v : Option (ℕ × ℕ)) → answer_said (Ok (given.Found o)) ≡ answered b (Judge n bs) v → Accepted ≡ answered b (Judge n bs) v
      by None h = refl
      by (Some q) h = cc
  given_accepted (Err f) fine e = cc

  pub refused_line : (x : Spoken) → is_err x ≡ true → answer_said x ≡ answer b (Judge n bs) → RefusedLine ≡ mark_in b (Judge n bs)
  refused_line x refused e = by (verdict b (Judge n bs)) e
    where
      by : (v : Option (ℕ × ℕ)) → answer_said x ≡ answered b (Judge n bs) v → RefusedLine ≡ marked (subject b.contracts (Judge n bs)) v
      by (Some r) h = refl
      by None h = let accepted = said_accepted x h in let none : is_err x ≡ false = ap is_err accepted in cc

  none_looks : Accepted ≡ answer b (Judge n bs) → first_fit looking_rows (bs, told_by b.contracts bs) ≡ None
  none_looks e =
      let p : Passed b n bs = passed b n bs (accepted_none (verdict b (Judge n bs)) e) in
      looking_parts b bs ∙ ap (λ o. or_else o (first_fit contract_list.market_rows (told_by b.contracts bs))) p.reads ∙ p.lists

  claim_said_of : (v : Claimed) (c : Claim) (o : Option (ℕ × ℕ)) → o ≡ None → claim_in (Ok c) ≡ settled_by bs v o → claim_of c ≡ v
  claim_said_of v c None h e = cc
  claim_said_of v c (Some r) h e = cc

  no_fault : (v : Claimed) (x : LineFault) (o : Option (ℕ × ℕ)) → o ≡ None → claim_in (Err x) ≡ settled_by bs v o → ⊥
  no_fault v x None h e = let z : ◌≡◌ {A = ℕ} 0 1 = cc in omega arith
  no_fault v x (Some r) h e = let z : ◌≡◌ {A = ℕ} 0 1 = cc in omega arith

  pub accepted_line : (cs : List Contract) (c : Claim) → b.contracts ≡ cs → Accepted ≡ answer b (Judge n bs) → claim_in (Ok c) ≡ claiming cs bs →
      LineOf (key_parts c.key) (is_error c.action) ≡ mark_in b (Judge n bs)
  accepted_line cs c same e claims =
      let x : Told = told_by b.contracts bs in
      let q : claim_of c ≡ claimed_by x = claim_said_of (claimed_by x) c (first_fit looking_rows (bs, x)) (none_looks e) (claims ∙ ap (λ l. claiming l bs) (sym same)) in
      ap (λ y. LineOf y.of_key (is_error y.acts)) q
      ∙ ap (marked (subject b.contracts (Judge n bs))) (sym (accepted_none (verdict b (Judge n bs)) e))

  pub no_claim : (cs : List Contract) (x : LineFault) → b.contracts ≡ cs → Accepted ≡ answer b (Judge n bs) → claim_in (Err x) ≡ claiming cs bs → ⊥
  no_claim cs x same e claims =
      no_fault (claimed_by (told_by b.contracts bs)) x (first_fit looking_rows (bs, told_by b.contracts bs)) (none_looks e) (claims ∙ ap (λ l. claiming l bs) (sym same))

-- ---- Calls that judge no line

-- a call that is neither an added contract nor a judged line has no mark, and leaves the contracts
pub other_call : (x : Asked) (b : Book) (cs : List Contract) → ((t : Bor (List ℕ)) → x ≡ asked.AddContract t → ⊥) → ((n : ℕ) (t : Bor (List ℕ)) → x ≡ asked.Judge n t → ⊥) → b.contracts ≡ cs → MarksCall b (call_said x) NoReportLine cs
other_call x b cs no_add no-judge same =
    let so = by x no_add no-judge (verdict b (call_said x)) in
    record { marks = so.0; lists = sym same ∙ so.1 }
  where
    by : (x : Asked) → ((t : Bor (List ℕ)) → x ≡ asked.AddContract t → ⊥) → ((n : ℕ) (t : Bor (List ℕ)) → x ≡ asked.Judge n t → ⊥) → (v : Option (ℕ × ℕ)) →
        (NoReportLine ≡ marked (subject b.contracts (call_said x)) v) × (b.contracts ≡ (changed b (call_said x) v).contracts)
    by (asked.AddContract t) no_add no-judge v = absurd (no_add t refl)
    by (asked.Judge n t) no_add no-judge v = absurd (no-judge n t refl)
    by (asked.AddEntity t) no_add no-judge None = (refl, refl)
    by (asked.AddEntity t) no_add no-judge (Some r) = (refl, refl)
    by (asked.NameFile t) no_add no-judge None = (refl, refl)
    by (asked.NameFile t) no_add no-judge (Some r) = (refl, refl)
    by (asked.Identify n t) no_add no-judge None = (refl, refl)
    by (asked.Identify n t) no_add no-judge (Some r) = (refl, refl)
    by (asked.Withdraw n) no_add no-judge None = (refl, refl)
    by (asked.Withdraw n) no_add no-judge (Some r) = (refl, refl)
    by (asked.Close n) no_add no-judge None = (refl, refl)
    by (asked.Close n) no_add no-judge (Some r) = (refl, refl)
    by (asked.LookUp t) no_add no-judge None = (refl, refl)
    by (asked.LookUp t) no_add no-judge (Some r) = (refl, refl)
    by asked.Total no_add no-judge None = (refl, refl)
    by asked.Total no_add no-judge (Some r) = (refl, refl)

pub judged_call : (b : Book) (n : ℕ) (bs : Bytes) (m : MarkParts) (cs : List Contract) → b.contracts ≡ cs → m ≡ mark_in b (Judge n bs) → MarksCall b (Judge n bs) m cs
judged_call b n bs m cs same e = record { marks = e; lists = sym same ∙ by (verdict b (Judge n bs)) }
  where
    by : (v : Option (ℕ × ℕ)) → b.contracts ≡ (changed b (Judge n bs) v).contracts
    by None = refl
    by (Some r) = refl

-- an added contract has no mark, and the contracts are those with it
pub added_call : (b : Book) (bs : Bytes) (cs next : List Contract) → b.contracts ≡ cs → next ≡ contract_list.added cs bs → MarksCall b (AddContract bs) NoReportLine next
added_call b bs cs next same e = record { marks = refl; lists = e ∙ ap (λ l. contract_list.added l bs) (sym same) ∙ sym (ap (λ d. d.contracts) (contracts_after bs b)) }
