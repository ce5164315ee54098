-- Lists of texts: one text longer.
use Rattle.std.proofs.Common.{◌≡◌, ℕ, List, [], ◌∷◌, ◌++◌, ap, ◌∙◌}
use Rattle.std.proofs.lemmas.List.{map-append}
use Rattle.text.specs.declared.bounded.Text.{Text}
use Rattle.text.specs.Bytes.{Bytes}
use Rattle.text.specs.Texts.{text_of, texts_of}

-- one text more at the end
pub texts_push : {n : ℕ} (ts us : List (Text n)) (x : Text n) (t : Bytes) → us ≡ ts ++ x ∷ [] → text_of x ≡ t → texts_of us ≡ texts_of ts ++ t ∷ []
texts_push ts us x t e f = ap texts_of e ∙ map-append text_of ts (x ∷ []) ∙ ap (λ u. texts_of ts ++ u ∷ []) f
