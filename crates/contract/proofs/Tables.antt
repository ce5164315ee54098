-- The tables of the contract list, by what the code's tests say.
use Rattle.std.proofs.Common.{◌≡◌, ℕ, suc, cond, List, [], ◌∷◌, ◌++◌, length, is_some, IsErrAnd, Some, None, Ok, Err, Option, Result, sym, ap, ◌∙◌}
use Rattle.std.proofs.lemmas.Result.{err_from_is_err_and}
use Rattle.text.specs.Bytes.{Bytes, start}
use Rattle.text.specs.Rows.{first_fit, looking_at, fields, Refused, settled_by}
use Rattle.text.proofs.Tables.{or_else, fit_append, fit_looking, none_fitted, one_fitted}
use Rattle.contract.specs.declared.faults.ContractFault.{ContractFault}
use Rattle.contract.specs.declared.held.HeldContract.{HeldContract}
use Rattle.contract.specs.ContractList.{Contract, text_rows, listing_rows, contract_rows, offered, adding, added}
use Rattle.contract.specs.Faults.{contract_fault_number, contract_fault_field, contract_fault_offset, contract_refusal}
use Rattle.contract.specs.Held.{contract_of, added_in}

-- ---- Adding a contract

module _ (cs : List Contract) (bs : Bytes) where
  both_tables : first_fit contract_rows (cs, bs) ≡ or_else (first_fit text_rows bs) (first_fit listing_rows (cs, offered bs))
  both_tables =
      fit_append {X = List Contract × Bytes} (looking_at (λ x. x.1) text_rows) (looking_at (λ x. (x.0, offered x.1)) listing_rows) (cs, bs)
      ∙ (λ i. or_else
      (fit_looking (λ (x : List Contract × Bytes). x.1) text_rows (cs, bs) i)
      (fit_looking (λ (x : List Contract × Bytes). (x.0, offered x.1)) listing_rows (cs, bs) i))

  -- the answer of adding, and the list then
  abbrev Answers : Result ℕ ContractFault → List Contract → Type 0
  Answers r left = (added_in r ≡ adding cs bs) × (left ≡ added cs bs)

  module _ {V : Type 0} (r : Result ℕ ContractFault) (x : ContractFault) (v : V) (o : Option (ℕ × ℕ)) (b : IsErrAnd r (λ y. y ≡ x)) (e : Err (contract_refusal x) ≡ settled_by bs v o) where
    found : (o ≡ Some (contract_fault_number x, contract_fault_field x)) × (contract_fault_offset x ≡ start (contract_fault_field x) (fields bs))
    found = one_fitted bs v (contract_fault_number x) (contract_fault_field x) (contract_fault_offset x) o e

    refused : first_fit contract_rows (cs, bs) ≡ o → Answers r cs
    refused f =
        let q = err_from_is_err_and r b in
        let g = f ∙ found.0 in (
          ap added_in q.1 ∙ ap (λ y. Err (contract_refusal y)) q.2 ∙ ap (λ at. Err (Refused (contract_fault_number x) (contract_fault_field x) at)) found.1 ∙ sym (ap (settled_by bs (suc (length cs))) g),
          sym (ap (λ o. cond (is_some o) cs (cs ++ offered bs ∷ [])) g),
        )

  pub by_text : (r : Result ℕ ContractFault) (x : ContractFault) → IsErrAnd r (λ y. y ≡ x) → Err (contract_refusal x) ≡ settled_by bs (offered bs) (first_fit text_rows bs) → Answers r cs
  by_text r x b e =
      let s = found r x (offered bs) (first_fit text_rows bs) b e in
      refused r x (offered bs) (first_fit text_rows bs) b e (both_tables ∙ ap (λ o. or_else o (first_fit listing_rows (cs, offered bs))) s.0 ∙ sym s.0)

  module _ (c : HeldContract) (e : Ok (contract_of c) ≡ settled_by bs (offered bs) (first_fit text_rows bs)) where
    read_so : (first_fit text_rows bs ≡ None) × (contract_of c ≡ offered bs)
    read_so = none_fitted bs (offered bs) (contract_of c) (first_fit text_rows bs) e

    listing_only : first_fit contract_rows (cs, bs) ≡ first_fit listing_rows (cs, contract_of c)
    listing_only = both_tables ∙ (λ i. or_else (read_so.0 i) (first_fit listing_rows (cs, sym read_so.1 i)))

    pub by_list : (r : Result ℕ ContractFault) (x : ContractFault) → IsErrAnd r (λ y. y ≡ x) → Err (contract_refusal x) ≡ settled_by {V = Unit {0}} bs tt (first_fit listing_rows (cs, contract_of c)) → Answers r cs
    by_list r x b f = refused {V = Unit {0}} r x tt (first_fit listing_rows (cs, contract_of c)) b f listing_only

    pub by_none : (n : ℕ) (left : List Contract) → n ≡ suc (length cs) → left ≡ cs ++ contract_of c ∷ [] → Ok (tt {0}) ≡ settled_by {V = Unit {0}} bs tt (first_fit listing_rows (cs, contract_of c)) → Answers (Ok n) left
    by_none n left l m f =
        let none = listing_only ∙ (none_fitted {V = Unit {0}} bs tt tt (first_fit listing_rows (cs, contract_of c)) f).0 in (
          ap Ok l ∙ sym (ap (settled_by bs (suc (length cs))) none),
          m ∙ ap (λ x. cs ++ x ∷ []) read_so.1 ∙ sym (ap (λ o. cond (is_some o) cs (cs ++ offered bs ∷ [])) none),
        )
