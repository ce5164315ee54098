-- What clauses say of a whole table. It stands apart from the definitions over entries, which the table's own ghost field reads.
use Rattle.std.specs.Prelude.{ℕ, List, Result}
use Rattle.life.specs.declared.key.Key.{Key}
use Rattle.life.specs.declared.life.Life.{Life}
use Rattle.life.specs.declared.store.NoRoom.{NoRoom}
use Rattle.ordered.specs.Table.{room_of, pairs_of, Sought, PutInto, TakenFrom}
use Rattle.ordered.specs.declared.table.Table.{Table}

-- the pairs that it holds
abbrev pub pairs_in : Table → List (Key × Life)
pairs_in t = pairs_of t.entries.now t.count

-- how many it can hold
abbrev pub room_in : Table → ℕ
room_in t = room_of t.entries.now

-- where the key stands, or else where it belongs
abbrev pub Finds : Table → Key → Result ℕ ℕ → Type 0
Finds t k r = Sought t.entries.now t.count k r

-- what `put` makes of a table
abbrev pub Puts : Table → Table → Key → Life → Result (Unit {0}) NoRoom → Type 0
Puts was is k l r = PutInto was.entries.now was.count is.entries.now is.count k l r

-- what `remove` makes of it
abbrev pub Drops : Table → Table → Key → Type 0
Drops was is k = TakenFrom was.entries.now was.count is.entries.now is.count k
