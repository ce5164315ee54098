-- What the code did at one call is one step of the book that is held.
use Rattle.measure.specs.declared.measure.Measure.{Ghosts}
use Rattle.std.proofs.Common.{◌≡◌, ℕ, Bool, true, false, cond, List, [], is_some, IfOk, Some, None, Ok, Err, Option, Result, sym, refl, ap, ◌∙◌, arith}
use Rattle.text.specs.Bytes.{Bytes, start}
use Rattle.text.specs.Rows.{first_fit, fields, settled_by}
use Rattle.filing.specs.declared.entities.EntityFault.{EntityFault}
use Rattle.filing.specs.Entities as entity_list
use Rattle.filing.specs.Faults.{refused_by}
use Rattle.filing.specs.Names.{naming_rows}
use Rattle.contract.specs.declared.faults.ContractFault.{ContractFault}
use Rattle.contract.specs.ContractList as contract_list
use Rattle.contract.specs.Held.{added_in}
use Rattle.filing.specs.Files.{File, identifying_rows, withdrawing_rows, closing_rows}
use Rattle.calls.specs.declared.files.faults.IdentifyFault.{IdentifyFault}
use Rattle.calls.specs.declared.files.faults.NamingError.{NamingError}
use Rattle.calls.specs.declared.files.faults.NamingError.TheVariants.{Fault, NoMemory}
use Rattle.calls.specs.declared.files.faults.PlaceFault.{PlaceFault}
use Rattle.calls.specs.declared.files.token.FileToken.{FileToken}
use Rattle.calls.specs.declared.files.token.OnlyNamed.{OnlyNamed}
use Rattle.calls.specs.declared.files.receipt.Receipt.{Receipt}
use Rattle.calls.specs.FileAnswers.{had_memory, name_refusal, identify_refusal, token_refusal, place_refusal, receipt_of}
use Rattle.calls.specs.FileFaults.{place_number}
use Rattle.calls.specs.FilesAfter.{file_of, named_in, identified_in, withdrawn_in, closed_in}
use Rattle.life.specs.declared.life.Life.{Life}
use Rattle.life.specs.Acts.{life_in}
use Rattle.life.specs.Parts.{key_parts}
use Rattle.claims.specs.declared.claimed.Claim.{Claim}
use Rattle.claims.specs.declared.faults.LineFault.{LineFault}
use Rattle.claims.specs.Claims.{claimed_by, claiming}
use Rattle.claims.specs.Made.{claim_of, claim_in}
use Rattle.life.specs.Lives.{look}
use Rattle.book.specs.Book.{Book, with_entities, with_contracts, with_files, Call, AddEntity, AddContract, NameFile, Identify, Withdraw, Close, LookUp, Total, Answer, Accepted, Refused, Found, receipt, told_by, verdict, done, undone, changed, after, granted, answered, answer, text_of}
use Rattle.book.proofs.Runs.{entities_after, contracts_after}
use Rattle.calls.specs.Follows.{book_total}
use Rattle.calls.specs.Said.{entity_answer, contract_answer, naming_answer, identify_answer, token_answer, ending_answer, receipt_said, finding_answer}
use Rattle.calls.specs.Steps.{Step}

-- what looking up made of the claim of a line: its fault, or the life of its key
abbrev pub Finds : Book → Result Claim LineFault → Result (Option Life) LineFault → Type 0
Finds b (Ok c) (Ok o) = life_in o ≡ look (key_parts c.key) b.lives
Finds b (Ok c) (Err y) = ⊥
Finds b (Err x) (Ok o) = ⊥
Finds b (Err x) (Err y) = y ≡ x

module _ {V : Type 0} (weighing : Ghosts V) where
  -- a call that is answered as the book answers it, and leaves just what the book is then
  exactly : (was is : Book) (t : V) (c : Call) (a : Answer) → a ≡ answer was c → is ≡ after was c → is.capacity ≡ was.capacity → is.lives ≡ was.lives → Step weighing was t c a is t
  exactly was is t c a says makes size lives = record {
    says = says;
    keeps_capacity = size;
    makes_entities = ap (λ b. b.entities) makes;
    makes_contracts = ap (λ b. b.contracts) makes;
    makes_files = ap (λ b. b.files) makes;
    makes_lives = λ j. ap (λ b. look j b.lives) makes;
    keeps_sum = λ e. e ∙ sym (ap (λ ls. book_total weighing (record { capacity = was.capacity; entities = was.entities; contracts = was.contracts; files = was.files; lives = ls })) lives);
  }

  -- ---- Entities and contracts

  entity_says : (b : Book) (bs : Bytes) (r : Result (Unit {0}) EntityFault) (v : Option (ℕ × ℕ)) → refused_by r ≡ v → entity_answer r ≡ answered b (AddEntity bs) v
  entity_says b bs (Ok u) v e = ap (answered b (AddEntity bs)) e
  entity_says b bs (Err f) v e = ap (answered b (AddEntity bs)) e

  pub entity_step : (was : Book) (t : V) (bs : Bytes) (r : Result (Unit {0}) EntityFault) (es : List Bytes) →
      refused_by r ≡ first_fit entity_list.entity_rows (was.entities, bs) → es ≡ entity_list.added was.entities bs →
      Step weighing was t (AddEntity bs) (entity_answer r) (with_entities was es) t
  entity_step was t bs r es e l =
      exactly was (with_entities was es) t (AddEntity bs) (entity_answer r) (entity_says was bs r _ e) (ap (with_entities was) l ∙ sym (entities_after bs was)) refl refl

  contract_says : (b : Book) (bs : Bytes) (n : ℕ) (r : Result ℕ ContractFault) (v : Option (ℕ × ℕ)) → added_in r ≡ settled_by bs n v → contract_answer r ≡ answered b (AddContract bs) v
  contract_says b bs n (Ok m) None e = refl
  contract_says b bs n (Ok m) (Some x) e = let z : ◌≡◌ {A = ℕ} 0 1 = cc in absurd (omega arith)
  contract_says b bs n (Err f) None e = let z : ◌≡◌ {A = ℕ} 0 1 = cc in absurd (omega arith)
  contract_says b bs n (Err f) (Some x) e = cc

  pub contract_step : (was : Book) (t : V) (bs : Bytes) (r : Result ℕ ContractFault) (cs : List contract_list.Contract) →
      added_in r ≡ contract_list.adding was.contracts bs → cs ≡ contract_list.added was.contracts bs →
      Step weighing was t (AddContract bs) (contract_answer r) (with_contracts was cs) t
  contract_step was t bs r cs e l =
      exactly was (with_contracts was cs) t (AddContract bs) (contract_answer r) (contract_says was bs _ r _ e) (ap (with_contracts was) l ∙ sym (contracts_after bs was)) refl refl

  -- an added contract has the next number
  pub contract_numbered : (bs : Bytes) (n : ℕ) (r : Result ℕ ContractFault) (v : Option (ℕ × ℕ)) → added_in r ≡ settled_by bs n v → IfOk r (λ m. m ≡ n)
  contract_numbered bs n (Ok m) None e = cc
  contract_numbered bs n (Ok m) (Some x) e = let z : ◌≡◌ {A = ℕ} 0 1 = cc in absurd (omega arith)
  contract_numbered bs n (Err f) v e = tt

  -- ---- Files

  files_as : (b : Book) (c : Call) (fs : List File) (v : Option (ℕ × ℕ)) → done b c ≡ with_files b fs → undone b c ≡ b → changed b c v ≡ with_files b (cond (is_some v) b.files fs)
  files_as b c fs None d u = d
  files_as b c fs (Some r) d u = u

  naming_says : {W : Type 0} (b : Book) (bs : Bytes) (r : Result W NamingError) (v : Option (ℕ × ℕ)) → had_memory r ≡ true → name_refusal r ≡ cond (had_memory r) v None → naming_answer r ≡ answered b (NameFile bs) v
  naming_says b bs (Ok w) v m e = ap (answered b (NameFile bs)) e
  naming_says b bs (Err (Fault f)) v m e = ap (answered b (NameFile bs)) e
  naming_says b bs (Err NoMemory) v m e = let z : ◌≡◌ {A = Bool} false true = m in let y : ◌≡◌ {A = ℕ} 0 1 = ap (λ x. cond x 1 0) z in absurd (omega arith)

  pub naming_step : {W : Type 0} (was : Book) (t : V) (bs : Bytes) (r : Result W NamingError) (fs : List File) → had_memory r ≡ true →
      name_refusal r ≡ cond (had_memory r) (first_fit naming_rows bs) None → fs ≡ cond (had_memory r) (named_in was.files bs) was.files →
      Step weighing was t (NameFile bs) (naming_answer r) (with_files was fs) t
  naming_step was t bs r fs m e l =
      exactly was (with_files was fs) t (NameFile bs) (naming_answer r) (naming_says was bs r _ m e)
      (ap (with_files was) (l ∙ ap (λ x. cond x (named_in was.files bs) was.files) m) ∙ sym (files_as was (NameFile bs) _ (first_fit naming_rows bs) refl refl)) refl refl

  identify_says : (b : Book) (n : ℕ) (bs : Bytes) (r : Result (Unit {0}) IdentifyFault) (v : Option (ℕ × ℕ)) → identify_refusal r ≡ v → identify_answer r ≡ answered b (Identify n bs) v
  identify_says b n bs (Ok u) v e = ap (answered b (Identify n bs)) e
  identify_says b n bs (Err f) v e = ap (answered b (Identify n bs)) e

  token_says : {W : Type 0} (b : Book) (n : ℕ) (bs : Bytes) (r : Result W (IdentifyFault × FileToken OnlyNamed)) (v : Option (ℕ × ℕ)) → token_refusal r ≡ v → token_answer r ≡ answered b (Identify n bs) v
  token_says b n bs (Ok w) v e = ap (answered b (Identify n bs)) e
  token_says b n bs (Err f) v e = ap (answered b (Identify n bs)) e

  identified_step : (was : Book) (t : V) (n : ℕ) (bs : Bytes) (a : Answer) (fs : List File) → a ≡ answer was (Identify n bs) → fs ≡ identified_in was.entities was.files n bs →
      Step weighing was t (Identify n bs) a (with_files was fs) t
  identified_step was t n bs a fs e l =
      exactly was (with_files was fs) t (Identify n bs) a e
      (ap (with_files was) l ∙ sym (files_as was (Identify n bs) _ (first_fit identifying_rows (was.entities, file_of was.files n, bs)) refl refl)) refl refl

  pub identify_step : (was : Book) (t : V) (n : ℕ) (bs : Bytes) (r : Result (Unit {0}) IdentifyFault) (fs : List File) →
      identify_refusal r ≡ first_fit identifying_rows (was.entities, file_of was.files n, bs) → fs ≡ identified_in was.entities was.files n bs →
      Step weighing was t (Identify n bs) (identify_answer r) (with_files was fs) t
  identify_step was t n bs r fs e l = identified_step was t n bs (identify_answer r) fs (identify_says was n bs r _ e) l

  pub token_step : {W : Type 0} (was : Book) (t : V) (n : ℕ) (bs : Bytes) (r : Result W (IdentifyFault × FileToken OnlyNamed)) (fs : List File) →
      token_refusal r ≡ first_fit identifying_rows (was.entities, file_of was.files n, bs) → fs ≡ identified_in was.entities was.files n bs →
      Step weighing was t (Identify n bs) (token_answer r) (with_files was fs) t
  token_step was t n bs r fs e l = identified_step was t n bs (token_answer r) fs (token_says was n bs r _ e) l

  -- a file ends, with its counts for a receipt
  ending_says : (b : Book) (c : Call) (f : File) (r : Result Receipt PlaceFault) (v : Option (ℕ × ℕ)) → text_of c ≡ [] → granted b c ≡ receipt f →
      place_refusal r ≡ v → IfOk r (λ x. x ≡ receipt_of f) → ending_answer r ≡ answered b c v
  ending_says b c f (Ok x) v empty g e m = ap receipt_said m ∙ sym g ∙ ap (answered b c) e
  ending_says b c f (Err x) v empty g e m = ap (λ bs. Refused (place_number x) 0 (start 0 (fields bs))) (sym empty) ∙ ap (answered b c) e

  pub withdraw_step : (was : Book) (t : V) (n : ℕ) (r : Result Receipt PlaceFault) (fs : List File) →
      place_refusal r ≡ first_fit withdrawing_rows (file_of was.files n) → IfOk r (λ x. x ≡ receipt_of (file_of was.files n)) → fs ≡ withdrawn_in was.files n →
      Step weighing was t (Withdraw n) (ending_answer r) (with_files was fs) t
  withdraw_step was t n r fs e m l =
      exactly was (with_files was fs) t (Withdraw n) (ending_answer r) (ending_says was (Withdraw n) (file_of was.files n) r _ refl refl e m)
      (ap (with_files was) l ∙ sym (files_as was (Withdraw n) _ (first_fit withdrawing_rows (file_of was.files n)) refl refl)) refl refl

  pub close_step : (was : Book) (t : V) (n : ℕ) (r : Result Receipt PlaceFault) (fs : List File) →
      place_refusal r ≡ first_fit closing_rows (file_of was.files n) → IfOk r (λ x. x ≡ receipt_of (file_of was.files n)) → fs ≡ closed_in was.files n →
      Step weighing was t (Close n) (ending_answer r) (with_files was fs) t
  close_step was t n r fs e m l =
      exactly was (with_files was fs) t (Close n) (ending_answer r) (ending_says was (Close n) (file_of was.files n) r _ refl refl e m)
      (ap (with_files was) l ∙ sym (files_as was (Close n) _ (first_fit closing_rows (file_of was.files n)) refl refl)) refl refl

  -- ---- Looking up, and the total: nothing changes

  unchanged : (b : Book) (c : Call) → done b c ≡ b → undone b c ≡ b → (v : Option (ℕ × ℕ)) → changed b c v ≡ b
  unchanged b c d u None = d
  unchanged b c d u (Some r) = u

  finding_says : (b : Book) (bs : Bytes) (x : Result Claim LineFault) (r : Result (Option Life) LineFault) (v : Option (ℕ × ℕ)) →
      claim_in x ≡ settled_by bs (claimed_by (told_by b.contracts bs)) v → Finds b x r → finding_answer r ≡ answered b (LookUp bs) v
  finding_says b bs (Ok c) (Ok o) None e f = ap Found (f ∙ ap (λ k. look k b.lives) (ap (λ q. q.of_key) (let z : claim_of c ≡ claimed_by (told_by b.contracts bs) = cc in z)))
  finding_says b bs (Ok c) (Err x) None e f = absurd f
  finding_says b bs (Err x) (Ok o) None e f = absurd f
  finding_says b bs (Err x) (Err y) None e f = let z : ◌≡◌ {A = ℕ} 0 1 = cc in absurd (omega arith)
  finding_says b bs (Ok c) (Ok o) (Some w) e f = let z : ◌≡◌ {A = ℕ} 0 1 = cc in absurd (omega arith)
  finding_says b bs (Ok c) (Err x) (Some w) e f = absurd f
  finding_says b bs (Err x) (Ok o) (Some w) e f = absurd f
  finding_says b bs (Err x) (Err y) (Some w) e f = cc

  pub look_step : (was : Book) (t : V) (bs : Bytes) (x : Result Claim LineFault) (r : Result (Option Life) LineFault) →
      claim_in x ≡ claiming was.contracts bs → Finds was x r → Step weighing was t (LookUp bs) (finding_answer r) was t
  look_step was t bs x r e f =
      exactly was was t (LookUp bs) (finding_answer r) (finding_says was bs x r _ e f) (sym (unchanged was (LookUp bs) refl refl (verdict was (LookUp bs)))) refl refl

  pub total_step : (was : Book) (t : V) → Step weighing was t Total Accepted was t
  total_step was t = exactly was was t Total Accepted refl refl refl refl
