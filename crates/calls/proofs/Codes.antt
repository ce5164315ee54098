-- Each fault has the Agency's code of its number.
use Rattle.std.proofs.Common.{◌≡◌, ℕ, ◌+◌, ◌<◌, ◌≤◌, Bool, true, false, cond, eqb, List, [], ◌∷◌, ◌++◌, IsErrAnd, IfErr, Some, None, Ok, Err, Option, Result, sym, refl, ap, ◌∙◌, subst, rules, arith}
use Rattle.std.specs.List.{AllByRecursion, AllZip}
use Rattle.std.proofs.lemmas.Bool.{ne_eqb}
use Rattle.std.proofs.lemmas.Result.{err_from_is_err_and}
use Rattle.text.specs.Bytes.{Bytes}
use Rattle.text.specs.Rows.{Row, first_fit}
use Rattle.text.proofs.Tables.{none_fitted, one_fitted}
use Rattle.text.specs.declared.words.Kind.{Kind}
use Rattle.line.specs.declared.faults.ReadFault.TheVariants.{Length, Fields, Form}
use Rattle.contract.specs.ContractList.{Contract}
use Rattle.contract.specs.declared.faults.ContractFault.{ContractFault}
use Rattle.contract.specs.declared.faults.ContractFault.TheVariants as contract
use Rattle.contract.specs.declared.faults.ListFault.{ListFault}
use Rattle.contract.specs.declared.faults.ListFault.TheVariants as list
use Rattle.contract.specs.Faults.{contract_fault_code}
use Rattle.filing.specs.declared.entities.EntityFault.{EntityFault}
use Rattle.filing.specs.declared.entities.EntityFault.TheVariants as entity
use Rattle.calls.specs.declared.files.faults.IdentifyFault.{IdentifyFault}
use Rattle.calls.specs.declared.files.faults.IdentifyFault.TheVariants as identify
use Rattle.calls.specs.declared.files.faults.PlaceFault.{PlaceFault}
use Rattle.calls.specs.declared.files.faults.PlaceFault.TheVariants as place
use Rattle.calls.specs.declared.files.faults.TakeFault.{TakeFault}
use Rattle.calls.specs.declared.files.faults.TakeFault.TheVariants as take
use Rattle.calls.specs.declared.files.receipt.Receipt.{Receipt}
use Rattle.calls.specs.FileFaults.{identify_code, take_number}
use Rattle.life.specs.declared.fault.LifeFault.TheVariants as life
use Rattle.register.specs.declared.faults.ActFault.{ActFault}
use Rattle.register.specs.declared.faults.ActFault.TheVariants as act
use Rattle.register.specs.Faults.{act_number, act_code}
use Rattle.claims.specs.declared.claimed.Claim.{Claim}
use Rattle.claims.specs.declared.faults.LineFault.{LineFault}
use Rattle.claims.specs.declared.faults.LineFault.TheVariants.{Read, List as Listed}
use Rattle.claims.specs.Claims.{claimed_by, claiming}
use Rattle.claims.specs.Faults.{line_fault_number, line_fault_field, line_fault_offset, line_fault_code}
use Rattle.claims.specs.Made.{claim_of, claim_in}
use Rattle.calls.specs.declared.faults.JudgeFault.{JudgeFault}
use Rattle.calls.specs.declared.faults.JudgeFault.TheVariants as fault
use Rattle.book.specs.Book.{Answer, told_by, looking_rows}
use Rattle.book.specs.Book as book
use Rattle.calls.specs.declared.answer.Given.{Given}
use Rattle.calls.specs.declared.answer.Given.TheVariants.{Accepted}
use Rattle.calls.specs.declared.answer.Reply.{Reply}
use Rattle.calls.specs.declared.fault.Fault.{Fault}
use Rattle.calls.specs.declared.fault.Fault.TheVariants as whole
use Rattle.calls.specs.declared.answer.Reply.TheVariants.{Answered}
use Rattle.calls.specs.declared.call.Call.{Call}
use Rattle.calls.specs.Codes.{agency_code, kind_of, code_due, code_in, kind_in, reply_code, reply_code_due, IsOfKind, TellsKind, ReplyTellsKind}
use Rattle.calls.specs.Faults.{judge_code, fault_code}
use Rattle.calls.specs.Said.{Spoken, answer_from, call_said, answer_said, reply_said, entity_answer, contract_answer, identify_answer, ending_answer, judge_answer}

-- ---- Faults of calls on the lists and on files

pub of_entities : (k : Kind) (r : Result (Unit {0}) EntityFault) → None ≡ code_due k (entity_answer r)
of_entities k (Ok u) = refl
of_entities k (Err entity.Form) = refl
of_entities k (Err entity.Known) = refl
of_entities k (Err entity.Full) = refl

pub of_contracts : (k : Kind) (r : Result ℕ ContractFault) → code_in contract_fault_code r ≡ code_due k (contract_answer r)
of_contracts k (Ok n) = refl
of_contracts k (Err (contract.Form e)) = refl
of_contracts k (Err contract.Listed) = refl
of_contracts k (Err (contract.Style at)) = refl
of_contracts k (Err (contract.NameTwice at)) = refl
of_contracts k (Err contract.Full) = refl

pub of_identifying : (k : Kind) (r : Result (Unit {0}) IdentifyFault) → code_in identify_code r ≡ code_due k (identify_answer r)
of_identifying k (Ok u) = refl
of_identifying k (Err identify.OutOfPlace) = refl
of_identifying k (Err identify.Entity) = refl

pub of_ending : (k : Kind) (r : Result Receipt PlaceFault) → None ≡ code_due k (ending_answer r)
of_ending k (Ok r) = refl
of_ending k (Err place.OutOfPlace) = refl

-- ---- Faults of a line

pub of_taking : (k : Kind) (e : TakeFault) → None ≡ agency_code k (take_number e)
of_taking k take.OutOfPlace = refl
of_taking k take.Spent = refl

pub of_acts : (k : Kind) (e : ActFault) → act_code k e ≡ agency_code k (act_number e)
of_acts k (act.Life life.Standing) = refl
of_acts k (act.Life life.NotOpen) = refl
of_acts k (act.Life life.NoneToCancel) = refl
of_acts k (act.Life life.CancelledBefore) = refl
of_acts k (act.Life life.NoneToStrike) = refl
of_acts k (act.Life life.Earlier) = refl
of_acts k act.Full = refl

of_lists : (k : Kind) (e : ListFault) (at : ℕ) → line_fault_code (Listed e at) ≡ agency_code k (line_fault_number (Listed e at))
of_lists k list.NotListed at = refl
of_lists k list.OtherName at = refl
of_lists k list.NoName at = refl

-- no code is published for a number below 31
below : (k : Kind) (n : ℕ) → n < 31 → None ≡ agency_code k n
below k n h =
    sym (past 31 _ _ h ∙ past 32 _ _ (omega arith) ∙ past 33 _ _ (omega arith) ∙ past 44 _ _ (omega arith) ∙ past 45 _ _ (omega arith)
    ∙ past 53 _ _ (omega arith) ∙ past 54 _ _ (omega arith) ∙ past 65 _ _ (omega arith))
  where
    past : (m : ℕ) (x y : Option Bytes) → n < m → cond (eqb n m) x y ≡ y
    past m x y l = ap (λ t. cond t x y) (ne_eqb n m (λ e. omega (arith, e, l)))

-- the row that fits is one of the table's
fitted : {X : Type 0} (P : ℕ → ℕ → Type 0) (rs : List (Row X)) (x : X) (n f : ℕ) → AllByRecursion (λ r. P r.number r.for_field) rs → first_fit rs x ≡ Some (n, f) → P n f
fitted P [] x n f h e = absurd (let z : ◌≡◌ {A = ℕ} 0 1 = cc in omega arith)
fitted P (r ∷ rs) x n f h e = by (r.fits x) (fitted P rs x n f h.1) e
  where
    by : (t : Bool) → (first_fit rs x ≡ Some (n, f) → P n f) → cond t (Some (r.number, r.for_field)) (first_fit rs x) ≡ Some (n, f) → P n f
    by true later e =
        let s : ◌≡◌ {A = ℕ × ℕ} (r.number, r.for_field) (n, f) = cc in
        subst (λ m. P m f) (ap (λ y. y.0) s) (subst (P r.number) (ap (λ y. y.1) s) h.0)
    by false later e = later e

-- a number that is 10 and the row's field is that of a row of form, and there are eleven of them
abbrev Formed : ℕ → ℕ → Type 0
Formed n f = n ≡ 10 + f → f ≤ 11

forms : AllByRecursion (λ r. Formed r.number r.for_field) looking_rows
forms = search (arith, rules)

pub of_lines : (k : Kind) (cs : List Contract) (bs : Bytes) (e : LineFault) → claim_in (Err e) ≡ claiming cs bs → line_fault_code e ≡ agency_code k (line_fault_number e)
of_lines k cs bs (Read Length) h = refl
of_lines k cs bs (Read Fields) h = refl
of_lines k cs bs (Read (Form f at)) h =
    let x : LineFault = Read (Form f at) in
    let o = one_fitted bs (claimed_by (told_by cs bs)) (line_fault_number x) (line_fault_field x) (line_fault_offset x) (first_fit looking_rows (bs, told_by cs bs)) h in
    let few = fitted Formed looking_rows (bs, told_by cs bs) (10 + f) f forms o.0 refl in
    below k (10 + f) (omega (arith, few))
of_lines k cs bs (Listed e at) h = of_lists k e at

-- ---- What a refused line tells of it

pub by_file : (k : Kind) (r : Result (Unit {0}) JudgeFault) (x : TakeFault) → IsErrAnd r (λ y. y ≡ fault.File x) → code_in judge_code r ≡ code_due k (judge_answer r)
by_file k r x h =
    let p = err_from_is_err_and r h in
    subst (λ y. code_in judge_code y ≡ code_due k (judge_answer y)) (sym (p.1 ∙ ap Err p.2)) (of_taking k x)

pub by_line : (k : Kind) (cs : List Contract) (bs : Bytes) (r : Result (Unit {0}) JudgeFault) (x : LineFault) → IsErrAnd r (λ y. y ≡ fault.Line x) → claim_in (Err x) ≡ claiming cs bs →
    code_in judge_code r ≡ code_due k (judge_answer r)
by_line k cs bs r x h e =
    let p = err_from_is_err_and r h in
    subst (λ y. code_in judge_code y ≡ code_due k (judge_answer y)) (sym (p.1 ∙ ap Err p.2)) (of_lines k cs bs x e)

-- a key is of what its line tells of
pub claimed_kind : (cs : List Contract) (bs : Bytes) (c : Claim) → claim_in (Ok c) ≡ claiming cs bs → c.key.kind ≡ kind_of bs
claimed_kind cs bs c e =
    ap (λ q. q.of_key.of_kind) (none_fitted bs (claimed_by (told_by cs bs)) (claim_of c) (first_fit looking_rows (bs, told_by cs bs)) e).1

pub by_act : (cs : List Contract) (bs : Bytes) (c : Claim) (e : ActFault) → claim_in (Ok c) ≡ claiming cs bs → act_code c.key.kind e ≡ agency_code (kind_of bs) (act_number e)
by_act cs bs c e h = ap (λ k. act_code k e) (claimed_kind cs bs c h) ∙ of_acts (kind_of bs) e

-- ---- Any call

-- the code of a call's own answer, kept in the answer of any call
pub coded : {asked call : Call} {a b : Spoken} {z : Answer} → asked ≡ call → a ≡ b → answer_said b ≡ z →
    code_in fault_code b ≡ code_due (kind_in (call_said call)) z → code_in fault_code a ≡ code_due (kind_in (call_said asked)) (answer_said a)
coded {call = call} {a = a} asks given says code =
    ap (code_in fault_code) given
    ∙ code
    ∙ ap (code_due (kind_in (call_said call))) (sym says ∙ sym (ap answer_said given))
    ∙ ap (λ x. code_due (kind_in (call_said x)) (answer_said a)) (sym asks)

-- the answer of a call whose fault is none of a line's action tells of no kind
pub kind_untold : {V E : Type 0} (k : Kind) (given : V → Given) (fault : E → Fault) → ((e : E) → TellsKind k (Err (fault e))) → {a : Spoken} (r : Result V E) → a ≡ answer_from given fault r → TellsKind k a
kind_untold k given fault none (Ok v) e = subst (TellsKind k) (sym e) tt
kind_untold k given fault none (Err x) e = subst (TellsKind k) (sym e) (none x)

-- and that of judging the kind that the refusal tells
pub kind_told : (k : Kind) {a : Spoken} (r : Result (Unit {0}) JudgeFault) → a ≡ answer_from (λ _. Accepted) whole.Judge r → IfErr r (IsOfKind k) → TellsKind k a
kind_told k (Ok v) e h = subst (TellsKind k) (sym e) tt
kind_told k (Err x) e h = subst (TellsKind k) (sym e) h

-- ---- A list of calls

one_more : (P : book.Call → Spoken → Type 0) (cs : List book.Call) (xs : List Spoken) (c : book.Call) (x : Spoken) → AllZip P cs xs → P c x → AllZip P (cs ++ c ∷ []) (xs ++ x ∷ [])
one_more P [] [] c x h e = (e, tt)
one_more P [] (y ∷ xs) c x h e = absurd h
one_more P (d ∷ cs) [] c x h e = absurd h
one_more P (d ∷ cs) (y ∷ xs) c x h e = (h.0, one_more P cs xs c x h.1 e)

-- what holds of each call and its answer, of a list that goes on with one
pub each_more : (P : book.Call → Spoken → Type 0) (cs : List book.Call) (xs next : List Spoken) (c : book.Call) (x : Spoken) → next ≡ xs ++ x ∷ [] → AllZip P cs xs → P c x → AllZip P (cs ++ c ∷ []) next
each_more P cs xs next c x l h e = subst (AllZip P (cs ++ c ∷ [])) (sym l) (one_more P cs xs c x h e)

-- what a reply that is an answer tells of its code
pub answered_code : {M : Type 0} (k : Kind) (r : Reply M) (x : Spoken) → r ≡ Answered x → reply_code r ≡ reply_code_due k (reply_said r) → code_in fault_code x ≡ code_due k (answer_said x)
answered_code k r x is e = subst (λ y. reply_code y ≡ reply_code_due k (reply_said y)) is e

pub answered_kind : {M : Type 0} (k : Kind) (r : Reply M) (x : Spoken) → r ≡ Answered x → ReplyTellsKind k r → TellsKind k x
answered_kind k r x is h = subst (ReplyTellsKind k) is h
