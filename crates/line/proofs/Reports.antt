-- A report from the values of its fields.
use Rattle.std.proofs.Common.{◌≡◌, ℕ, suc, ◌+◌, ◌≤◌, [], ◌∷◌, ℤ, IsErrAnd, Some, None, Err, Option, Result, sym, refl, ap, ◌∙◌, arith}
use Rattle.std.proofs.lemmas.Result.{err_from_is_err_and}
use Rattle.text.specs.Bytes.{Bytes, value, then}
use Rattle.text.specs.Forms.{time_form, digits_form, at_most}
use Rattle.text.specs.Rows.{Refusal, Refused}
use Rattle.std.proofs.lemmas.Bool.Decides.{nat_tests}
use Rattle.line.specs.declared.faults.ReadFault.{ReadFault}
use Rattle.line.specs.declared.faults.ReadFault.TheVariants.{Form}
use Rattle.line.specs.declared.report.Report.{Report}
use Rattle.line.specs.Faults.{read_refusal}
use Rattle.line.specs.Lines.{Reported}
use Rattle.line.specs.Reads.{bytes_of, signed_of, as_word, as_price}
use Rattle.line.specs.Reports.{said_in}

-- a reading that stopped at a field refuses the line with 10 and the field's number
pub stops : (k : ℕ) {at : ℕ} {goal : Result Reported Refusal} (r : Result Report ReadFault) (x : ReadFault) → IsErrAnd r (λ y. y ≡ x)
    → (x ≡ Form (suc k) at) × (goal ≡ Err (Refused (10 + suc k) (suc k) at)) → said_in r ≡ goal
stops k r x b s =
    let q = err_from_is_err_and r b in
    ap said_in q.1 ∙ ap (λ y. Err (read_refusal y)) (q.2 ∙ s.0) ∙ sym s.1

-- what is handed out says the value of the field
pub read_value : {V : Type 0} (any : V) {x y : V} {o : Option V} → o ≡ Some y → x ≡ y → x ≡ value any o
read_value any s e = e ∙ sym (ap (value any) s)

pub word_bytes : (at : ℕ) (y : Bytes) → bytes_of (as_word [] at y) ≡ y
word_bytes at [] = refl
word_bytes at (b ∷ y) = refl

pub price_signed : (t : Bytes) (at : ℕ) (y : Option ℤ) → signed_of (as_price t at y) ≡ y
price_signed t at None = refl
price_signed t at (Some z) = refl

pub time_small : (t : Bytes) (n : ℕ) → time_form t ≡ Some n → n ≤ 4_294_967_295
time_small t n e = go (digits_form 10 t) e
  where
    go : (o : Option ℕ) → then o (at_most 4_294_967_295) ≡ Some n → n ≤ 4_294_967_295
    go None e = absurd (let z : ◌≡◌ {A = ℕ} 0 1 = cc in omega arith)
    go (Some m) e = grind (arith, nat_tests)
