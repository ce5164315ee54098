-- Lists of names: the first name and the others.
use Rattle.std.proofs.Common.{◌≡◌, ℕ, suc, ◌+◌, ◌-◌, ◌<◌, ◌≤◌, ◌&&◌, List, [], ◌∷◌, length, take, drop, Some, sym, ap, ◌∙◌, arith}
use Rattle.text.specs.Bytes.{Bytes, every, pieces}
use Rattle.text.specs.Forms.{a_name}
use Rattle.text.specs.Listings.{first_name}
use Rattle.text.specs.Cuts.{span_to}
use Rattle.text.proofs.Pieces.{first_after, piece_and_more, piece_alone}

pub first_listed : (n : ℕ) (t : Bytes) → n ≡ span_to 44 t → first_name (pieces 44 t) ≡ Some (take n t)
first_listed n t e = ap first_name (first_after 44 t) ∙ ap (λ m. Some (take m t)) (sym e)

pub last_listed : (n : ℕ) (t : Bytes) → n ≡ span_to 44 t → length t ≤ n → drop 1 (pieces 44 t) ≡ []
last_listed n t e l = ap (drop 1) (piece_alone 44 t (omega arith))

pub rest_listed : (n : ℕ) (t : Bytes) → n ≡ span_to 44 t → n < length t → drop 1 (pieces 44 t) ≡ pieces 44 (drop (n + 1) t)
rest_listed n t e l = ap (drop 1) (piece_and_more 44 t (omega arith)) ∙ ap (λ m. pieces 44 (drop (m + 1) t)) (sym e)

pub last_name : (n : ℕ) (t : Bytes) → n ≡ span_to 44 t → length t ≤ n → pieces 44 t ≡ take n t ∷ []
last_name n t e l = piece_alone 44 t (omega arith) ∙ ap (λ m. take m t ∷ []) (sym e)

pub name_more : (n : ℕ) (t : Bytes) → n ≡ span_to 44 t → n < length t → pieces 44 t ≡ take n t ∷ pieces 44 (drop (n + 1) t)
name_more n t e l = piece_and_more 44 t (omega arith) ∙ ap (λ m. take m t ∷ pieces 44 (drop (m + 1) t)) (sym e)

-- one name more, of those that are looked at
pub formed_more : (k : ℕ) (t : Bytes) (ts : List Bytes) → 0 < k → every a_name (take k (t ∷ ts)) ≡ a_name t && every a_name (take (k - 1) ts)
formed_more k t ts l = ap (λ n. every a_name (take n (t ∷ ts))) (let e : k ≡ suc (k - 1) = omega arith in e)

pub past_more : (k : ℕ) (t : Bytes) (ts : List Bytes) → 0 < k → drop k (t ∷ ts) ≡ drop (k - 1) ts
past_more k t ts l = ap (λ n. drop n (t ∷ ts)) (let e : k ≡ suc (k - 1) = omega arith in e)
