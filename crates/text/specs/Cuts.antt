-- The first piece of a text, as far as the first separator.
use Rattle.std.specs.Prelude.{ℕ, ◌+◌, cond, not, List, length, take, ◌==◌, nat_lt}
use Rattle.std.specs.List.{prefix_len}

-- how many bytes stand before the first separator
abbrev pub span_to : ℕ → List ℕ → ℕ
span_to sep bs = prefix_len (λ b. not (b == sep)) bs

abbrev pub front_to : ℕ → List ℕ → List ℕ
front_to sep bs = take (span_to sep bs) bs

-- how many bytes the first piece takes, with its separator if it has one
abbrev pub pace_to : ℕ → List ℕ → ℕ
pace_to sep bs = cond (nat_lt (span_to sep bs) (length bs)) (span_to sep bs + 1) (span_to sep bs)
