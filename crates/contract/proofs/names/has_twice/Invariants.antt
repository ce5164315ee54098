use Rattle.std.proofs.Common.{◌≡◌, length}
use Rattle.text.specs.Texts.{texts_of}
use Rattle.contract.specs.ContractList.{repeats}
use Rattle.contract.proofs.names.has_twice.Given as goal

abbrev pub invariant-loop-text : goal.invariant-loop-text
invariant-loop-text l = repeats (texts_of l.rest) ≡ repeats (texts_of l.texts)

abbrev pub decreases-loop-text : goal.decreases-loop-text
decreases-loop-text l = length l.rest
