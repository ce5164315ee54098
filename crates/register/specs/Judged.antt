-- What an action of a key does to the lives that are held: the first row against it, and the lives afterwards.
use Rattle.std.specs.Prelude.{ℕ, length, Some, None, Option, nat_le}
use Rattle.text.specs.Rows.{first_fit}
use Rattle.text.specs.declared.words.Action.{Action}
use Rattle.life.specs.Lives.{Lives, look}
use Rattle.life.specs.Parts.{KeyParts, LifeParts}
use Rattle.life.specs.Rules.{acting_rows}
use Rattle.book.specs.Book.{acted}

-- the first row against an action of a key, as told by its line
abbrev pub act_refusal : ℕ → KeyParts → Action → LifeParts → Lives → Option (ℕ × ℕ)
act_refusal capacity k a told ls = first_fit acting_rows (record { does = a; when = told.at_time; held = look k ls }, nat_le capacity (length ls))

-- the lives afterwards: a refused action changes none
abbrev pub lives_after : Option (ℕ × ℕ) → KeyParts → Action → LifeParts → Lives → Lives
lives_after None k a told ls = acted a k told.at_time told.with_quantity told.with_price ls
lives_after (Some r) k a told ls = ls
