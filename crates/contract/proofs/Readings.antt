-- A contract from the values of its fields.
use Rattle.std.proofs.Common.{◌≡◌, ℕ, suc, ◌≤◌, Bool, true, false, cond, not, ◌&&◌, List, ◌∷◌, length, IsErrAnd, Some, None, Err, Option, Result, sym, refl, ap, ◌∙◌, arith}
use Rattle.std.proofs.lemmas.Result.{err_from_is_err_and}
use Rattle.std.proofs.lemmas.Bool.Decides.{nat_tests}
use Rattle.text.specs.Bytes.{Bytes, piece, every, between, id_byte, has_form, value, then, provided}
use Rattle.text.specs.Forms.{id_form}
use Rattle.text.specs.Rows.{Row, first_fit, fields, Refusal, Refused, settled_by}
use Rattle.line.specs.declared.faults.ReadFault.{ReadFault}
use Rattle.line.specs.declared.faults.ReadFault.TheVariants.{Form}
use Rattle.line.specs.declared.reader.Reader.{Reader}
use Rattle.line.proofs.Stages.{Reached, form_row}
use Rattle.contract.specs.declared.faults.ContractFault.TheVariants as fault
use Rattle.contract.specs.declared.held.HeldContract.{HeldContract}
use Rattle.contract.specs.declared.types.OptionStyle.{OptionStyle}
use Rattle.contract.specs.ContractList.{Contract, style_form}
use Rattle.contract.specs.Faults.{contract_refusal}
use Rattle.contract.specs.Held.{contract_in}
use Rattle.contract.specs.Styles.{as_style, style_said}

-- a reading that stopped at a field refuses the text
pub stops : (k : ℕ) {at : ℕ} {goal : Result Contract Refusal} (r : Result HeldContract ReadFault) (x : ReadFault) → IsErrAnd r (λ y. y ≡ x)
    → (x ≡ Form (suc k) at) × (goal ≡ Err (Refused 51 (suc k) at)) → contract_in r ≡ goal
stops k r x b s =
    let q = err_from_is_err_and r b in
    ap contract_in q.1 ∙ ap (λ y. Err (contract_refusal (fault.Form y))) (q.2 ∙ s.0) ∙ sym s.1

-- ---- Forms

both : (a b : Bool) (t y : Bytes) → provided (a && b) t ≡ Some y → (a ≡ true) × (t ≡ y)
both true true t y e = (refl, cc)
both true false t y e = absurd (let z : ◌≡◌ {A = ℕ} 0 1 = cc in omega arith)
both false b t y e = absurd (let z : ◌≡◌ {A = ℕ} 0 1 = cc in omega arith)

pub id_short : (t y : Bytes) → id_form 1 32 t ≡ Some y → length y ≤ 32
id_short t y e =
    let p = both (between 1 32 (length t)) (every id_byte t) t y e in
    let l = p.0 in
    let m = ap length p.1 in
    let k : length t ≤ 32 = grind (arith, nat_tests) in
    omega arith

-- ---- Styles

same_form : (o : Option (Option ℕ)) → has_form o ≡ has_form (then o (λ s. Some (as_style s)))
same_form None = refl
same_form (Some s) = refl

abbrev pub style_of : OptionStyle → Option ℕ
style_of s = s.0

pub style_value : (o : Option (Option ℕ)) (y : OptionStyle) → then o (λ s. Some (as_style s)) ≡ Some y → style_of y ≡ value None o
style_value None y e = absurd (let z : ◌≡◌ {A = ℕ} 0 1 = cc in omega arith)
style_value (Some s) y e = let n : as_style s ≡ y = cc in ap style_of (sym n)

-- the row of the style, by the style as the code has it
pub restyled : {V : Type 0} {bs : Bytes} {all : List (Row Bytes)} {v : V} {r : Reader} {k n f : ℕ} {rows : List (Row Bytes)}
    → Reached bs all v r k (form_row n f style_form ∷ rows) → Reached bs all v r k (form_row n f style_said ∷ rows)
restyled {bs = bs} {v = v} {n = n} {f = f} {rows = rows} h = record {
  there = h.there;
  count = h.count;
  whole = h.whole;
  is = h.is ∙ ap (λ t. settled_by bs v (cond (not t) (Some (n, f)) (first_fit rows bs))) (same_form (style_form (piece f (fields bs))));
}
