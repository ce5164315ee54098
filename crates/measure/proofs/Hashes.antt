-- The word of bytes that follow one another.
use Rattle.std.proofs.Common.{◌≡◌, ℕ, List, [], ◌∷◌, ◌++◌, sym, refl, ap, ◌∙◌}
use Rattle.life.specs.Fnv.{fnv, fnv_step, word_of}

fnv_append : (h : ℕ) (xs ys : List ℕ) → fnv h (xs ++ ys) ≡ fnv (fnv h xs) ys
fnv_append h [] ys = refl
fnv_append h (x ∷ xs) ys = fnv_append (fnv_step h x) xs ys

-- the word of some bytes, and of more behind them
pub word_more : {h h' : ℕ} (xs ys : List ℕ) → h ≡ word_of xs → h' ≡ fnv h ys → h' ≡ word_of (xs ++ ys)
unfolding word_of
word_more xs ys e e' = e' ∙ ap (λ h. fnv h ys) e ∙ sym (fnv_append 14695981039346656037 xs ys)
