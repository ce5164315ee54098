-- The bounds of a life.
use Rattle.std.specs.Prelude.{ℕ}

-- the largest quantity, in hundred-thousandths: 10,000,000 units
abbrev pub quantity_limit : ℕ
quantity_limit = 1_000_000_000_000
