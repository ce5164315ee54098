-- The names that a part of a line lists.
use Rattle.std.specs.Prelude.{List, [], ◌∷◌, Some, None, Option}
use Rattle.std.specs.Borrow.{Bor}
use Rattle.text.specs.declared.names.Names.{Names}
use Rattle.text.specs.Bytes.{Bytes, pieces}

-- the names that a text separates by commas, if there is a text
abbrev pub separated : Option (Bor Bytes) → List Bytes
separated None = []
separated (Some t) = pieces 44 t.now

abbrev pub listing : Names → List Bytes
listing ns = separated ns.listed

abbrev pub listing_in : Option Names → Option (List Bytes)
listing_in None = None
listing_in (Some ns) = Some (listing ns)

abbrev pub first_name : List Bytes → Option Bytes
first_name [] = None
first_name (t ∷ ts) = Some t

abbrev pub first_in : Option (Bor Bytes) → Option Bytes
first_in None = None
first_in (Some t) = Some t.now
