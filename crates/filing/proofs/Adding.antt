-- Adding an entity, by the rows of the table.
use Rattle.std.proofs.Common.{◌≡◌, ℕ, Bool, true, cond, not, ◌&&◌, leb, List, [], ◌∷◌, ◌++◌, length, is_some, Some, None, Option, sym, ap, ◌∙◌, arith}
use Rattle.std.proofs.lemmas.List.{length-take}
use Rattle.std.proofs.lemmas.Bool.Decides.{nat_tests}
use Rattle.text.specs.declared.bounded.Text.{Text}
use Rattle.text.specs.Bytes.{Bytes, among, has_form, provided}
use Rattle.text.specs.Forms.{code_form}
use Rattle.text.specs.Rows.{first_fit}
use Rattle.text.specs.Texts.{texts_of}
use Rattle.filing.specs.Entities.{CodesWithin, entity_rows, added}

-- a code has twelve bytes, and says itself
pub twelve : (t u : Bytes) → Some u ≡ code_form t → length t ≡ 12
unfolding code_form
twelve t u e = grind (arith, nat_tests)

pub says_itself : (t u : Bytes) → Some u ≡ code_form t → u ≡ t
unfolding code_form
says_itself t u e = grind (arith, nat_tests)

pub code_text : (t : Bytes) (o : Option Bytes) → Some t ≡ code_form t → o ≡ provided (leb (length t) 12 && leb (length t) 255) t → o ≡ code_form t
code_text t o e f =
    let n = twelve t t e in
    let y : leb (length t) 12 && leb (length t) 255 ≡ true = grind (arith, nat_tests) in
    f ∙ ap (λ b. provided b t) y ∙ e

abbrev row_found : Option Bytes → Bool → Bool → Option (ℕ × ℕ)
row_found o known full = cond (not (has_form o)) (Some (61, 0)) (cond known (Some (62, 0)) (cond full (Some (63, 0)) None))

-- the first row that fits, and the list then, by what the three tests say
module _ (es : List Bytes) (code : Bytes) (o : Option Bytes) (known full : Bool)
    (f : o ≡ code_form code) (k : known ≡ among es code) (l : leb 32 (length es) ≡ full) where
  pub fitting : row_found o known full ≡ first_fit entity_rows (es, code)
  fitting = λ i. row_found (f i) (k i) (sym l i)

  pub leaves : cond (is_some (row_found o known full)) es (es ++ code ∷ []) ≡ added es code
  leaves = ap (λ o. cond (is_some o) es (es ++ code ∷ [])) fitting

-- ---- Limits

-- each code has at most twelve bytes, by the type of what the list holds
pub codes_within : (ts : List (Text 12)) → CodesWithin (texts_of ts)
codes_within [] = tt
codes_within (t ∷ ts) =
    let ok = t.ok in
    (omega (arith, ok.0, length-take t.len t.bytes), codes_within ts)
