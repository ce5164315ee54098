-- Index names in a list of texts.
use Rattle.std.proofs.Common.{◌≡◌, ℕ, ◌≤◌, true, ◌&&◌, leb, List, [], ◌∷◌, ◌++◌, length, is_some, Some, None, Option, sym, refl, ap, ◌∙◌, append_assoc, arith}
use Rattle.std.proofs.lemmas.Bool.{and_parts}
use Rattle.std.proofs.lemmas.Bool.Decides.{nat_tests}
use Rattle.text.specs.declared.bounded.Text.{Text}
use Rattle.text.specs.Bytes.{Bytes, between, provided}
use Rattle.text.specs.Forms.{a_name}
use Rattle.text.specs.Texts.{text_of, text_in, texts_of}
use Rattle.text.proofs.Amongs.{texts_push}

-- a text that is short enough is kept whole
pub fits_text : (o : Option (Text 32)) (s : Bytes) → length s ≤ 32 → text_in o ≡ provided (leb (length s) 32 && leb (length s) 255) s → text_in o ≡ Some s
fits_text o s l e =
    let y : leb (length s) 32 && leb (length s) 255 ≡ true = grind (arith, nat_tests) in
    e ∙ ap (λ b. provided b s) y

pub some_text : (o : Option (Text 32)) (s : Bytes) → text_in o ≡ Some s → is_some o ≡ true
some_text None s e = absurd (let z : ◌≡◌ {A = ℕ} 0 1 = cc in omega arith)
some_text (Some t) s e = refl

pub text_kept : (o : Option (Text 32)) (t : Text 32) (s : Bytes) → o ≡ Some t → text_in o ≡ Some s → text_of t ≡ s
text_kept o t s e f = let g : Some (text_of t) ≡ Some s = ap text_in (sym e) ∙ f in cc

pub name_short : (s : Bytes) → a_name s ≡ true → length s ≤ 32
name_short s e = let p = (and_parts (between 1 32 (length s)) _ e).0 in grind (arith, nat_tests)

-- one name more at the end
pub one_more : (ts us : List (Text 32)) (x : Text 32) (t : Bytes) (ns more all : List Bytes)
    → us ≡ ts ++ x ∷ [] → text_of x ≡ t → ns ≡ t ∷ more → texts_of ts ++ ns ≡ all → texts_of us ++ more ≡ all
one_more ts us x t ns more all l e f h =
    ap (λ k. k ++ more) (texts_push ts us x t l e)
    ∙ append_assoc (texts_of ts) (t ∷ []) more
    ∙ ap (λ k. texts_of ts ++ k) (sym f)
    ∙ h
