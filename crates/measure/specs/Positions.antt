-- The position of a contract as a sum of integers, with no width.
use Rattle.std.specs.Prelude.{ℕ, ◌<◌, ◌≤◌, Bool, true, cond, ◌&&◌, [], ◌∷◌, ℤ, pos, ◌+ℤ◌, neg_ℤ, ◌==◌, nat_lt, nat_le}
use Rattle.text.specs.declared.words.Kind.{Kind}
use Rattle.text.specs.declared.words.Kind.TheVariants.{Order, Trade}
use Rattle.text.specs.declared.words.Side.{Side}
use Rattle.text.specs.declared.words.Side.TheVariants.{Buy, Sell}
use Rattle.life.specs.Limits.{quantity_limit}
use Rattle.life.specs.Parts.{KeyParts, LifeParts}
use Rattle.life.specs.Lives.{Pair, Lives}
use Rattle.measure.specs.Totals.{total_of}

-- a trade's quantity, plus for a buy and minus for a sell; nothing for an order
abbrev pub traded : Kind → Side → ℕ → ℤ
traded Order s q = pos 0
traded Trade Buy q = pos q
traded Trade Sell q = neg_ℤ (pos q)

-- what a life brings to the position of contract n
abbrev pub brought : ℕ → KeyParts → LifeParts → ℤ
brought n key life = cond (n == key.of_contract) (traded key.of_kind key.of_side life.with_quantity) (pos 0)

-- the position of contract n: what the open lives bring, in all
abbrev pub true_position : ℕ → Lives → ℤ
true_position n ps = total_of (pos 0) ◌+ℤ◌ (brought n) ps

-- a pair as keys and lives have it: a listed contract, and a quantity of at most 10^12
pub record Within (p : Pair) : Type 0 where
  pub listed : p.0.of_contract < 64
  pub bounded : p.1.with_quantity ≤ quantity_limit

-- whether all pairs are
abbrev pub all_within : Lives → Bool
all_within [] = true
all_within (p ∷ ps) = (nat_lt p.0.of_contract 64 && nat_le p.1.with_quantity quantity_limit) && all_within ps
