-- Orders come before trades, and buys before sells: the order in which the words' types list them.
use Rattle.std.proofs.Common.{◌≡◌, Less, refl}
use Rattle.text.specs.declared.words.Kind.TheVariants.{Order, Trade}
use Rattle.text.specs.declared.words.Side.TheVariants.{Buy, Sell}
use Rattle.text.specs.contracts.words.KindOrd.TheImpl as kind_ord
use Rattle.text.specs.contracts.words.SideOrd.TheImpl as side_ord

pub orders_first : kind_ord.ghosts.cmp Order Trade ≡ Less
orders_first = refl

pub buys_first : side_ord.ghosts.cmp Buy Sell ≡ Less
buys_first = refl
