-- A text put into a line at a place.
use Rattle.std.specs.Prelude.{◌≡◌, ℕ, ◌+◌, List, ◌++◌, length, take, drop}

-- the text stands in `after` from `at` to `end`; what stood before and behind it in `line` is as it was
pub record Put (line : List ℕ) (at : ℕ) (text : List ℕ) (end : ℕ) (after : List ℕ) : Type 0 where
  pub ends : end ≡ at + length text
  pub front : take end after ≡ take at line ++ text
  pub rest : drop end after ≡ drop end line
