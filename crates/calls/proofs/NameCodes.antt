-- The entity code of a file's name has twelve bytes, so that a bounded text holds it; and a file
-- more.
use Rattle.std.proofs.Common.{◌≡◌, ℕ, Bool, true, false, cond, not, List, [], ◌∷◌, length, Some, None, Ok, Option, Result, sym, refl, ap, ◌∙◌, arith}
use Rattle.text.specs.Bytes.{Bytes, pieces, value, has_form}
use Rattle.text.specs.Forms.{code_form}
use Rattle.text.specs.Rows.{Refusal, first_fit}
use Rattle.text.proofs.Tables.{none_fitted}
use Rattle.filing.specs.Names.{code_in, name_form, code_offset, naming, naming_rows}
use Rattle.filing.proofs.Adding.{twelve, says_itself}

chosen : (t : Bool) (d c : Bytes) → cond t (code_form d) None ≡ Some c → length c ≡ 12
chosen true d c e = ap length (says_itself d c (sym e)) ∙ twelve d c (sym e)
chosen false d c e = absurd (let z : ◌≡◌ {A = ℕ} 0 1 = cc in omega arith)

twelve_in : (ts : List Bytes) (c : Bytes) → code_in ts ≡ Some c → length c ≡ 12
twelve_in [] c e = absurd (let z : ◌≡◌ {A = ℕ} 0 1 = cc in omega arith)
twelve_in (a ∷ []) c e = absurd (let z : ◌≡◌ {A = ℕ} 0 1 = cc in omega arith)
twelve_in (a ∷ b ∷ []) c e = absurd (let z : ◌≡◌ {A = ℕ} 0 1 = cc in omega arith)
twelve_in (a ∷ b ∷ x ∷ []) c e = absurd (let z : ◌≡◌ {A = ℕ} 0 1 = cc in omega arith)
twelve_in (a ∷ b ∷ x ∷ d ∷ []) c e = absurd (let z : ◌≡◌ {A = ℕ} 0 1 = cc in omega arith)
twelve_in (a ∷ b ∷ x ∷ d ∷ l ∷ []) c e = chosen _ d c e
twelve_in (a ∷ b ∷ x ∷ d ∷ l ∷ m ∷ ts) c e = absurd (let z : ◌≡◌ {A = ℕ} 0 1 = cc in omega arith)

twelve_named : (bs c : Bytes) → name_form bs ≡ Some c → length c ≡ 12
unfolding name_form
twelve_named bs c e = twelve_in (pieces 95 bs) c e

-- a name that is read: no row fits, and this is its code
pub record Read (bs c : Bytes) : Type 0 where
  pub none_fits : first_fit naming_rows bs ≡ None
  pub is_code : c ≡ value [] (name_form bs)
  pub twelve_bytes : length c ≡ 12

pub is_read : (bs c : Bytes) (at : ℕ) → ◌≡◌ {A = Result (Bytes × ℕ) Refusal} (Ok (c, at)) (naming bs) → Read bs c
is_read bs c at e =
    let f = none_fitted bs (value [] (name_form bs), code_offset bs) (c, at) (first_fit naming_rows bs) e in
    let p : c ≡ value [] (name_form bs) = ap (λ (x : Bytes × ℕ). x.0) f.1 in
    record { none_fits = f.0; is_code = p; twelve_bytes = go (name_form bs) refl f.0 p }
  where
    go : (o : Option Bytes) → name_form bs ≡ o → cond {A = Option (ℕ × ℕ)} (not (has_form o)) (Some (64, 0)) None ≡ None → c ≡ value [] o → length c ≡ 12
    go None n h p = absurd (let z : ◌≡◌ {A = ℕ} 0 1 = cc in omega arith)
    go (Some d) n h p = ap length p ∙ twelve_named bs d n
