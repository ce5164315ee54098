-- Examples of FNV-1a words.
use Rattle.std.specs.Prelude.{◌≡◌, ℕ, List, [], ◌∷◌, negsuc, Some, None, codes}
use Rattle.text.specs.Bytes.{Bytes}
use Rattle.text.specs.declared.words.Kind.TheVariants.{Order, Trade}
use Rattle.text.specs.declared.words.Side.TheVariants.{Buy, Sell}
use Rattle.life.specs.declared.life.State.TheVariants.{Open}
use Rattle.life.specs.Fnv.{word_of}
use Rattle.life.specs.Parts.{KeyParts, LifeParts}
use Rattle.measure.specs.Words.{bytes_of}

-- bytes and their word
abbrev pub Stands : Bytes × ℕ → Type 0
Stands v = word_of v.0 ≡ v.1

-- published for FNV-1a of 64 bits
abbrev pub published : List (Bytes × ℕ)
published =
    (codes "", 0xcbf29ce484222325)
    ∷ (codes "a", 0xaf63dc4c8601ec8c)
    ∷ (codes "b", 0xaf63df4c8601f1a5)
    ∷ (codes "foobar", 0x85944171f73967e8)
    ∷ []

-- a sale of 12.5 at -3 under contract 5
abbrev sale : KeyParts
sale = record {
  of_kind = Trade;
  of_id = codes "T-1";
  of_contract = 5;
  of_venue = codes "XEEE";
  of_participant = codes "A0001234K.DE";
  of_side = Sell;
}

abbrev sold : LifeParts
sold = record { in_state = Open; at_time = 0; with_quantity = 1250000; with_price = Some (negsuc 299999) }

-- an order to buy 1, with no price
abbrev bid : KeyParts
bid = record {
  of_kind = Order;
  of_id = codes "ORD-77";
  of_contract = 0;
  of_venue = codes "XEEE";
  of_participant = codes "A0001234K.DE";
  of_side = Buy;
}

abbrev wanted : LifeParts
wanted = record { in_state = Open; at_time = 0; with_quantity = 100000; with_price = None }

-- two lives, with the words of their bytes
abbrev pub worked : List (Bytes × ℕ)
worked = (bytes_of sale sold, 0x2afbae5f2b13e677) ∷ (bytes_of bid wanted, 0x5a8bf47c404e97f4) ∷ []
