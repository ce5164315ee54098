-- A key and a life of zeros: what is read past a table's end.
use Rattle.std.specs.Prelude.{[], replicate, None, refl}
use Rattle.std.proofs.Common.{arith}
use Rattle.text.specs.declared.bounded.Text.{Text}
use Rattle.text.specs.declared.words.Kind.TheVariants.{Order}
use Rattle.text.specs.declared.words.Side.TheVariants.{Buy}
use Rattle.life.specs.Fnv.{word_of}
use Rattle.life.specs.declared.key.Key.{Key}
use Rattle.life.specs.declared.life.Life.{Life}
use Rattle.life.specs.declared.life.State.TheVariants.{Open}

unfoldable pub no_text : Text 52
no_text = record { bytes = replicate 52 0; len = 0; ok = (omega arith, refl, refl) }

unfoldable pub no_key : Key
unfolding no_text
no_key = record {
  kind = Order;
  id = no_text;
  contract = 0;
  venue = replicate 4 0;
  participant = replicate 12 0;
  side = Buy;
  word = word_of [];
  listed = omega arith;
  kept = refl;
}

unfoldable pub no_life : Life
no_life = record { state = Open; time = 0; quantity = 0; price = None; bounded = omega arith }
