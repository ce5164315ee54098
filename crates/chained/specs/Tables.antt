-- What clauses say of a whole table. It stands apart from the definitions over slots, which the table's own ghost field reads.
use Rattle.std.specs.Prelude.{ℕ, List, Option, Result}
use Rattle.life.specs.declared.key.Key.{Key}
use Rattle.life.specs.declared.life.Life.{Life}
use Rattle.life.specs.declared.store.NoRoom.{NoRoom}
use Rattle.chained.specs.Table.{room_of, pairs_of, Found, PutInto, TakenFrom}
use Rattle.chained.specs.declared.table.Table.{Table}

-- the pairs that it holds
abbrev pub pairs_in : Table → List (Key × Life)
pairs_in t = pairs_of t.slots.now t.count

-- how many it can hold
abbrev pub room_in : Table → ℕ
room_in t = room_of t.slots.now

-- the place of the key, if it is held
abbrev pub Finds : Table → Key → Option ℕ → Type 0
Finds t k r = Found t.slots.now t.count k r

-- what `put` makes of a table
abbrev pub Puts : Table → Table → Key → Life → Result (Unit {0}) NoRoom → Type 0
Puts was is k l r = PutInto was.slots.now was.count is.slots.now is.count k l r

-- what `remove` makes of it
abbrev pub Drops : Table → Table → Key → Type 0
Drops was is k = TakenFrom was.slots.now was.count is.slots.now is.count k
