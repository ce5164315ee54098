-- Runs one after another, and what adding to the lists leaves.
use Rattle.std.proofs.Common.{◌≡◌, ℕ, cond, List, [], ◌∷◌, ◌++◌, is_some, Some, None, Option, refl, ap}
use Rattle.text.specs.Bytes.{Bytes}
use Rattle.contract.specs.ContractList as contract_list
use Rattle.filing.specs.Entities as entity_list
use Rattle.book.specs.Book.{Book, with_entities, with_contracts, Call, AddEntity, AddContract, verdict, changed, after, answer, end, answers}
use Rattle.book.specs.Laws.{entry, log}

-- ---- Runs one after another

pub end_append : (xs ys : List Call) (b : Book) → end b (xs ++ ys) ≡ end (end b xs) ys
end_append [] ys b = refl
end_append (c ∷ xs) ys b = end_append xs ys (after b c)

pub answers_append : (xs ys : List Call) (b : Book) → answers b (xs ++ ys) ≡ answers b xs ++ answers (end b xs) ys
answers_append [] ys b = refl
answers_append (c ∷ xs) ys b = ap (λ as-told. answer b c ∷ as-told) (answers_append xs ys (after b c))

-- the log of a run is those of its parts, one after another
pub log_append : (xs ys : List Call) (b : Book) → log b (xs ++ ys) ≡ log b xs ++ log (end b xs) ys
log_append [] ys b = refl
log_append (c ∷ xs) ys b = ap (λ es. entry b c (verdict b c) ∷ es) (log_append xs ys (after b c))

-- ---- The lists after adding

pub entities_after : (bs : Bytes) (b : Book) → after b (AddEntity bs) ≡ with_entities b (entity_list.added b.entities bs)
entities_after bs b = by (verdict b (AddEntity bs))
  where
    by : (v : Option (ℕ × ℕ)) → changed b (AddEntity bs) v ≡ with_entities b (cond (is_some v) b.entities (b.entities ++ bs ∷ []))
    by None = refl
    by (Some r) = refl

pub contracts_after : (bs : Bytes) (b : Book) → after b (AddContract bs) ≡ with_contracts b (contract_list.added b.contracts bs)
contracts_after bs b = by (verdict b (AddContract bs))
  where
    by : (v : Option (ℕ × ℕ)) → changed b (AddContract bs) v ≡ with_contracts b (cond (is_some v) b.contracts (b.contracts ++ contract_list.offered bs ∷ []))
    by None = refl
    by (Some r) = refl
