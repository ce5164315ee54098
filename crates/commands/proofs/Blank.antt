-- A key and a life that were made of the blank parts are the blank ones.
use Rattle.std.proofs.Common.{◌≡◌, ◌≤◌, [], replicate, Some, None, Option, sym, ap, ◌∙◌}
use mathlib.Core.HLevel.{is_prop→PathP}
use native.Mathlib.Bridge.{le_prop}
use Rattle.text.specs.declared.words.Kind.TheVariants.{Order}
use Rattle.text.specs.declared.words.Side.TheVariants.{Buy}
use Rattle.life.specs.declared.key.Key.{Key}
use Rattle.life.specs.declared.life.Life.{Life}
use Rattle.life.specs.Blank.{no_text, no_key, no_life}
use Rattle.life.specs.Acts.{life_in}
use Rattle.life.specs.Keys.{parts_in}
use Rattle.life.specs.Parts.{KeyParts, key_parts, life_parts}
use Rattle.life.specs.Rules.{new_life}
use Rattle.life.proofs.KeyOrder.{key_from}

abbrev pub blank_parts : KeyParts
blank_parts = record {
  of_kind = Order;
  of_id = [];
  of_contract = 0;
  of_venue = replicate 4 0;
  of_participant = replicate 12 0;
  of_side = Buy;
}

key_is : (k : Key) → key_parts k ≡ blank_parts → k ≡ no_key
unfolding no_text no_key
key_is k e = key_from k no_key e

life_is : (l : Life) → life_parts l ≡ new_life 0 0 None → l ≡ no_life
unfolding no_life
life_is l e =
    λ i. record {
      state = (e i).in_state;
      time = (e i).at_time;
      quantity = (e i).with_quantity;
      price = (e i).with_price;
      bounded = is_prop→PathP (λ j. (e j).with_quantity ≤ 1_000_000_000_000) (λ j. le_prop) l.bounded no_life.bounded i;
    }

pub blank_key : (o : Option Key) (k : Key) → o ≡ Some k → parts_in o ≡ Some blank_parts → k ≡ no_key
blank_key o k s e = key_is k (let q : Some (key_parts k) ≡ Some blank_parts = ap parts_in (sym s) ∙ e in cc)

pub blank_life : (o : Option Life) (l : Life) → o ≡ Some l → life_in o ≡ Some (new_life 0 0 None) → l ≡ no_life
blank_life o l s e = life_is l (let q : Some (life_parts l) ≡ Some (new_life 0 0 None) = ap life_in (sym s) ∙ e in cc)
