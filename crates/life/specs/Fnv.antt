-- FNV-1a of 64 bits.
use Rattle.std.specs.Prelude.{ℕ, ◌*◌, ◌%◌, ◌^◌, List, fold, bit_xor}

-- one byte more
abbrev pub fnv_step : ℕ → ℕ → ℕ
fnv_step h b = (bit_xor h b * 1099511628211) % 2 ^ 64

-- the word of some bytes, after h
abbrev pub fnv : ℕ → List ℕ → ℕ
fnv h bs = fold fnv_step h bs

-- the word of a text from the start
unfoldable pub word_of : List ℕ → ℕ
word_of bs = fnv 14695981039346656037 bs
