-- The rows of a line and those of the contract list, one after the other.
use Rattle.std.proofs.Common.{◌≡◌, ℕ, ◌<◌, List, IsErrAnd, Some, None, Ok, Err, Option, Result, sym, refl, ap, ◌∙◌, subst, arith}
use Rattle.std.proofs.lemmas.Result.{err_from_is_err_and}
use Rattle.text.specs.Bytes.{Bytes, start}
use Rattle.text.specs.Rows.{first_fit, fields, Refused, settled_by}
use Rattle.text.proofs.Tables.{or_else, none_fitted, one_fitted}
use Rattle.line.specs.declared.faults.ReadFault.{ReadFault}
use Rattle.line.specs.declared.report.Report.{Report}
use Rattle.line.specs.Faults.{fault_number, fault_field, fault_offset}
use Rattle.line.specs.Lines.{report, reading, line_rows}
use Rattle.line.specs.Reports.{said, said_in}
use Rattle.contract.specs.declared.faults.ListFault.{ListFault}
use Rattle.contract.specs.ContractList.{Contract, told, market_rows, contract_number, settled_plainly, due}
use Rattle.contract.specs.Faults.{list_fault_number, list_fault_field}
use Rattle.life.specs.declared.key.Key.{Key}
use Rattle.life.specs.declared.life.Life.{Life}
use Rattle.life.specs.Acts.{life_in, life_from}
use Rattle.life.specs.Keys.{parts_in, parts_from}
use Rattle.life.specs.Parts.{key_parts, life_parts}
use Rattle.book.specs.Book.{empty_book, with_contracts, told_by, looking_rows}
use Rattle.book.proofs.Tables.{looking_parts}
use Rattle.claims.specs.declared.claimed.Claim.{Claim}
use Rattle.claims.specs.declared.faults.LineFault.{LineFault}
use Rattle.claims.specs.declared.faults.LineFault.TheVariants as line_fault
use Rattle.claims.specs.Claims.{claimed_by, claiming}
use Rattle.claims.specs.Faults.{line_refusal}
use Rattle.claims.specs.Made.{claim_in}
use Rattle.claims.proofs.Sizes.{Sizes, sizes, key_with, life_with, key_stands, life_stands}

-- ---- What an answer of the contract list tells of the row that fitted

none_due : {V : Type 0} (v x : V) (o : Option (ℕ × ℕ)) → Ok x ≡ settled_plainly v o → (o ≡ None) × (x ≡ v)
none_due v x None e = (refl, cc)
none_due v x (Some p) e = absurd (let z : ◌≡◌ {A = ℕ} 0 1 = cc in omega arith)

one_due : {V : Type 0} (v : V) (p : ℕ × ℕ) (o : Option (ℕ × ℕ)) → Err p ≡ settled_plainly v o → o ≡ Some p
one_due v p None e = absurd (let z : ◌≡◌ {A = ℕ} 0 1 = cc in omega arith)
one_due v p (Some q) e = cc

-- ---- What a line says, once it is read

module _ (bs : Bytes) (r : Report) (e : said_in (Ok r) ≡ reading bs) where
  read_so : (first_fit line_rows bs ≡ None) × (said r ≡ report (fields bs))
  read_so = none_fitted bs (report (fields bs)) (said r) (first_fit line_rows bs) e

  read_sizes : Sizes (said r)
  read_sizes = subst Sizes (sym read_so.1) (sizes bs read_so.0)

  pub key_made : (n : ℕ) (o : Option Key) → n < 64 → parts_in o ≡ parts_from r.kind r.id.now n r.venue.now r.participant.now r.side → parts_in o ≡ Some (key_with n (said r))
  key_made n o l p = p ∙ key_stands (said r) n read_sizes l

  pub life_made : (o : Option Life) → life_in o ≡ life_from r.time r.quantity r.price → life_in o ≡ Some (life_with (said r))
  life_made o p = p ∙ life_stands (said r) read_sizes

-- ---- What it claims

module _ (cs : List Contract) (bs : Bytes) where
  both_tables : first_fit looking_rows (bs, told_by cs bs) ≡ or_else (first_fit line_rows bs) (first_fit market_rows (told_by cs bs))
  both_tables = looking_parts (with_contracts (empty_book 0) cs) bs

  -- a line that cannot be read
  pub by_line : (r : Result Claim LineFault) (x : ReadFault) → IsErrAnd r (λ y. y ≡ line_fault.Read x) → said_in (Err x) ≡ reading bs → claim_in r ≡ claiming cs bs
  by_line r x b e =
      let q = err_from_is_err_and r b in
      let s = one_fitted bs (report (fields bs)) (fault_number x) (fault_field x) (fault_offset x) (first_fit line_rows bs) e in
      let o = both_tables ∙ ap (λ o. or_else o (first_fit market_rows (told_by cs bs))) s.0 in
      ap claim_in q.1
      ∙ ap (λ y. Err (line_refusal y)) q.2
      ∙ ap (λ at. Err (Refused (fault_number x) (fault_field x) at)) s.1
      ∙ sym (ap (settled_by bs (claimed_by (told_by cs bs))) o)

  -- one that was read: its contract refuses it, or it makes its claim
  module _ (r : Report) (e : said_in (Ok r) ≡ reading bs) where
    list_only : first_fit looking_rows (bs, told_by cs bs) ≡ first_fit market_rows (told cs (said r))
    list_only = both_tables ∙ (λ i. or_else ((read_so bs r e).0 i) (first_fit market_rows (told cs (sym (read_so bs r e).1 i))))

    pub by_list : (x : ListFault) (f at : ℕ) → f ≡ list_fault_field x → at ≡ start f (fields bs) → Err (list_fault_number x, list_fault_field x) ≡ due cs (said r)
        → claim_in (Err (line_fault.List x at)) ≡ claiming cs bs
    by_list x f at g a d =
        let o = list_only ∙ one_due _ _ (first_fit market_rows (told cs (said r))) d in
        ap (λ n. Err (Refused (list_fault_number x) (list_fault_field x) n)) (a ∙ ap (λ n. start n (fields bs)) g)
        ∙ sym (ap (settled_by bs (claimed_by (told_by cs bs))) o)

    pub by_none : (n : ℕ) (k : Key) (l : Life) → Ok n ≡ due cs (said r) → key_parts k ≡ key_with n (said r) → life_parts l ≡ life_with (said r)
        → claim_in (Ok (record { key = k; action = r.action; told = l })) ≡ claiming cs bs
    by_none n k l d p q =
        let m = none_due (contract_number (told cs (said r))) n (first_fit market_rows (told cs (said r))) d in
        (λ i. Ok (record { of_key = p i; acts = r.action; tells = q i }))
        ∙ (λ i. Ok (record { of_key = key_with (m.1 i) (said r); acts = r.action; tells = life_with (said r) }))
        ∙ ap (λ x. Ok (claimed_by (told cs x))) (read_so bs r e).1
        ∙ sym (ap (settled_by bs (claimed_by (told_by cs bs))) (list_only ∙ m.0))
