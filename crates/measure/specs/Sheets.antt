-- The position sheet: 64 sums modulo 2^64, shown as signed numbers.
use Rattle.std.specs.Prelude.{◌≡◌, ℕ, suc, ◌+◌, ◌-◌, ◌%◌, ◌^◌, ◌<◌, cond, List, map, length, ℤ, pos, negsuc, ◌==◌, slice_index}
use Rattle.std.proofs.Common.{⊎_elim, arith, to_z}
use Rattle.std.specs.Int.{w64}
use Rattle.std.specs.List.{range_with_len}
use Rattle.std.proofs.lemmas.List.FromFn.{length-map-range_with_len, get_or-map-range_with_len}
use Rattle.std.proofs.lemmas.List.{get_or_past}
use Rattle.std.proofs.lemmas.Bool.{cases_lt}
use Rattle.life.specs.Parts.{KeyParts, LifeParts}
use Rattle.measure.specs.declared.sheet.Sheet.{Sheet}
use Rattle.measure.specs.Positions.{brought}

-- 64 cells, with f n modulo 2^64 in cell n
unfoldable pub cells_of : (ℕ → ℕ) → List ℕ
cells_of f = map (λ n. f n % 2 ^ 64) (range_with_len 0 64)

pub cells_whole : (f : ℕ → ℕ) → length (cells_of f) ≡ 64
unfolding cells_of
cells_whole f = length-map-range_with_len (λ n. f n % 2 ^ 64) 0 64

pub cells_at : (f : ℕ → ℕ) (n : ℕ) → n < 64 → slice_index (cells_of f) n ≡ f n % 2 ^ 64
unfolding cells_of
cells_at f n h = get_or-map-range_with_len (λ n. f n % 2 ^ 64) 0 64 n n 0 h (omega arith)

pub cells_fit : (f : ℕ → ℕ) (n : ℕ) → slice_index (cells_of f) n < 2 ^ 64
cells_fit f n =
    ⊎_elim
    (λ h. omega (arith, cells_at f n h))
    (λ h. omega (arith, get_or_past (cells_of f) n 0 (omega (arith, cells_whole f))))
    (cases_lt n 64)

unfoldable pub sheet : (ℕ → ℕ) → Sheet
sheet f = record { cells = cells_of f; whole = cells_whole f; fit = cells_fit f }

-- the cell of contract n, and 0 past the last one
abbrev pub cell : Sheet → ℕ → ℕ
cell s n = slice_index s.cells n

-- the position of contract n that a sheet shows: its cell as a signed number
abbrev pub position_of : Sheet → ℕ → ℤ
position_of s n = to_z w64 (cell s n)

-- ---- The measure

abbrev pub no_sheet : Sheet
no_sheet = sheet (λ n. 0)

abbrev pub added : Sheet → Sheet → Sheet
added x y = sheet (λ n. cell x n + cell y n)

abbrev pub negated : Sheet → Sheet
negated x = sheet (λ n. 2 ^ 64 - cell x n)

-- an integer modulo 2^64
abbrev pub residue : ℤ → ℕ
residue (pos n) = n % 2 ^ 64
residue (negsuc n) = (2 ^ 64 - suc n % 2 ^ 64) % 2 ^ 64

-- the same as a signed number: what a sum of 64 bits shows of it
abbrev pub wrapped : ℤ → ℤ
wrapped z = to_z w64 (residue z)

-- what a life brings to each position
abbrev pub sheet_weight : KeyParts → LifeParts → Sheet
sheet_weight key life = sheet (λ n. residue (brought n key life))

-- v in one cell, and nothing in the others
abbrev pub one_cell : ℕ → ℕ → Sheet
one_cell at v = sheet (λ n. cond (n == at) v 0)
