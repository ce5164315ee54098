-- Keys and lives as plain data: what the rules speak of.
use Rattle.std.specs.Prelude.{ℕ, ℤ, Option}
use Rattle.text.specs.Bytes.{Bytes}
use Rattle.text.specs.Texts.{text_of}
use Rattle.text.specs.declared.words.Kind.{Kind}
use Rattle.text.specs.declared.words.Side.{Side}
use Rattle.life.specs.declared.key.Key.{Key}
use Rattle.life.specs.declared.life.Life.{Life}
use Rattle.life.specs.declared.life.State.{State}

-- the parts of a key
pub record KeyParts : Type 0 where
  pub of_kind : Kind
  pub of_id : Bytes
  pub of_contract : ℕ
  pub of_venue : Bytes
  pub of_participant : Bytes
  pub of_side : Side

-- the parts of a life
pub record LifeParts : Type 0 where
  pub in_state : State
  pub at_time : ℕ
  pub with_quantity : ℕ
  pub with_price : Option ℤ

abbrev pub key_parts : Key → KeyParts
key_parts k = record {
  of_kind = k.kind;
  of_id = text_of k.id;
  of_contract = k.contract;
  of_venue = k.venue;
  of_participant = k.participant;
  of_side = k.side;
}

abbrev pub life_parts : Life → LifeParts
life_parts l = record { in_state = l.state; at_time = l.time; with_quantity = l.quantity; with_price = l.price }
