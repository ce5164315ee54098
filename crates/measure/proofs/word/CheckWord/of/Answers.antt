use Rattle.std.proofs.Common.{refl}
use Rattle.life.specs.Fnv.{word_of}
use Rattle.measure.proofs.word.CheckWord.of.Goals as goal

pub returns-clause-examples : goal.returns-clause-examples
unfolding word_of
returns-clause-examples c = (refl, (refl, (refl, (refl, (refl, (refl, tt))))))
