-- What is read and written at a file's number, and places reserved for files.
use Rattle.std.proofs.Common.{◌≡◌, ℕ, zero, suc, ◌+◌, ◌<◌, ◌≤◌, Bool, true, false, cond, List, [], ◌∷◌, ◌++◌, length, is_some, OnOk, OnErr, Ok, Err, None, Some, Option, Result, slice_get, slice_set, sym, refl, ap, ◌∙◌, arith}
use Rattle.std.specs.Option.{unwrap_or}
use Rattle.std.proofs.lemmas.Option.{none-some, unwrap_or-slice_get}
use Rattle.std.proofs.lemmas.List.{length-set}
use Rattle.text.specs.Bytes.{Bytes}
use Rattle.text.specs.Rows.{first_fit, settled_by}
use Rattle.contract.specs.ContractList.{Contract, contract_rows, offered, adding}
use Rattle.contract.specs.ContractList as contract_list
use Rattle.contract.specs.declared.faults.ContractFault.{ContractFault}
use Rattle.contract.specs.Held.{added_in}
use Rattle.filing.specs.declared.entities.EntityFault.{EntityFault}
use Rattle.filing.specs.Entities.{entity_rows}
use Rattle.filing.specs.Entities as entity_list
use Rattle.filing.specs.Faults.{refused_by}
use Rattle.filing.specs.Files.{File}
use Rattle.calls.specs.FilesAfter.{no_file, file_of}
use Rattle.calls.specs.FilesHeld.{Filed, with_files}

-- the file of a number is what is read there, or none
pub file_of_read : (fs : List File) (n : ℕ) → file_of fs n ≡ unwrap_or (slice_get fs n) no_file
file_of_read fs n = sym (unwrap_or-slice_get fs n no_file)

-- where nothing is read, nothing is written
pub nothing_put : (fs : List File) (n : ℕ) (f : File) → slice_get fs n ≡ None → slice_set fs n f ≡ fs
nothing_put [] n f e = refl
nothing_put (x ∷ xs) zero f e = absurd (none-some x (sym e))
nothing_put (x ∷ xs) (suc n) f e = ap (λ ys. x ∷ ys) (nothing_put xs n f e)

-- what was reserved beyond n is there beyond m, which is as many
pub reserved : {V E : Type 0} (r : Result V E) (m n more room : ℕ) → m ≡ n → OnOk r (n + more ≤ room) → OnOk r (m + more ≤ room)
reserved (Ok v) m n more room e h = omega arith
reserved (Err x) m n more room e h = tt

-- where more were wanted than are there, as many are not there
pub not_reserved : {V E : Type 0} (r : Result V E) (m n more room : ℕ) → m ≡ n → OnErr r (room < n + more) → OnErr r (m + more ≤ room → ⊥)
not_reserved (Ok v) m n more room e h = tt
not_reserved (Err x) m n more room e h = λ l. omega (arith, l)

-- ---- As many files have places left where none is added

as_many : (b : Bool) (xs ys : List File) → length ys ≡ length xs → length (cond b xs ys) ≡ length xs
as_many true xs ys e = refl
as_many false xs ys e = e

one_at_stage : (b : Bool) (fs : List File) (n : ℕ) (f : File) → length (cond b fs (slice_set fs n f)) ≡ length fs
one_at_stage b fs n f = as_many b fs (slice_set fs n f) (length-set fs n f)

-- what a list was made into, with as many files
pub record AsMany (was is : Filed) : Type 0 where
  pub same_number : length is.files ≡ length was.files
  pub same_places : is.places ≡ was.places

pub as_many_with : (was is : Filed) (fs : List File) → is ≡ with_files fs was → length fs ≡ length was.files → AsMany was is
as_many_with was is fs e s = record { same_number = ap (λ (f : Filed). length f.files) e ∙ s; same_places = ap (λ (f : Filed). f.places) e }

pub as_many_set : (was is : Filed) (n : ℕ) (f : File) → is ≡ with_files (slice_set was.files n f) was → AsMany was is
as_many_set was is n f e = as_many_with was is _ e (length-set was.files n f)

pub as_many_unless : (was is : Filed) (b : Bool) (n : ℕ) (f : File) → is ≡ with_files (cond b was.files (slice_set was.files n f)) was → AsMany was is
as_many_unless was is b n f e = as_many_with was is _ e (one_at_stage b was.files n f)

pub still_reserved : (was is : Filed) → AsMany was is → (more : ℕ) → length was.files + more ≤ was.places → length is.files + more ≤ is.places
still_reserved was is a more h = omega (arith, h, a.same_number, a.same_places)

-- ---- A refusal leaves a list as it was

pub entities_stay : (es fs : List Bytes) (bs : Bytes) (r : Result (Unit {0}) EntityFault) → refused_by r ≡ first_fit entity_rows (es, bs) → fs ≡ entity_list.added es bs → OnErr r (fs ≡ es)
entities_stay es fs bs (Ok u) e l = tt
entities_stay es fs bs (Err f) e l = l ∙ ap (λ v. cond (is_some v) es (es ++ bs ∷ [])) (sym e)

contract_refused : (cs ds : List Contract) (bs : Bytes) (n : ℕ) (f : ContractFault) (v : Option (ℕ × ℕ)) → added_in {V = ℕ} (Err f) ≡ settled_by bs n v →
    ds ≡ cond (is_some v) cs (cs ++ offered bs ∷ []) → ds ≡ cs
contract_refused cs ds bs n f None e l = let z : ◌≡◌ {A = ℕ} 0 1 = cc in absurd (omega arith)
contract_refused cs ds bs n f (Some r) e l = l

pub contracts_stay : (cs ds : List Contract) (bs : Bytes) (r : Result ℕ ContractFault) → added_in r ≡ adding cs bs → ds ≡ contract_list.added cs bs → OnErr r (ds ≡ cs)
contracts_stay cs ds bs (Ok n) e l = tt
contracts_stay cs ds bs (Err f) e l = contract_refused cs ds bs _ f (first_fit contract_rows (cs, bs)) e l
