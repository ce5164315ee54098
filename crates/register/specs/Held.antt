-- What a register is: how many lives it may hold, those that it holds, and their total.
use Rattle.std.specs.Prelude.{◌≡◌, ℕ, ◌≤◌, true, List, length}
use Rattle.life.specs.declared.key.Key.{Key}
use Rattle.life.specs.declared.life.Life.{Life}
use Rattle.life.specs.Lives.{Lives, Unique, plain}
use Rattle.life.specs.Pairs as pairs
use Rattle.measure.specs.declared.measure.Measure.{Ghosts}
use Rattle.measure.specs.Positions.{all_within}
use Rattle.measure.specs.Totals.{total_in}
use Rattle.measure.proofs.Exact.{plain_all_within}
use Rattle.life.proofs.Plain.{plain_unique, plain_fits}

pub record Held (V : Type 0) : Type 0 where
  pub room : ℕ
  pub lives : Lives
  pub total : V
  -- no key has two of them
  pub unique : Unique lives
  -- no more are held than may be
  pub within : length lives ≤ room
  -- each has a listed contract and a quantity within bounds
  pub bounded : all_within lives ≡ true

-- a store's pairs as lives, in their order there, with a total
abbrev pub held : {V : Type 0} (room : ℕ) (xs : List (Key × Life)) → pairs.Unique xs → length xs ≤ room → V → Held V
held room xs unique within total = record {
  room = room;
  lives = plain xs;
  total = total;
  unique = plain_unique xs unique;
  within = plain_fits xs room within;
  bounded = plain_all_within xs;
}

-- a register keeps its room, and its total is that of the lives which it then holds
pub record Kept {V : Type 0} (m : Ghosts V) (old new : Held V) : Type 0 where
  pub room : new.room ≡ old.room
  pub sums : new.total ≡ total_in m new.lives
