use Rattle.std.proofs.Common.{refl}
use Rattle.text.specs.Forms.{code_form, decimal_form}
use Rattle.filing.specs.Names.{name_form}
use Rattle.life.specs.Keys.{same_key}
use Rattle.book.proofs.endings_stand.Goals as goal

pub returns : goal.returns
unfolding code_form decimal_form name_form same_key
returns c = (((refl, refl), ((refl, refl), ((refl, refl), tt))), refl, refl)
