use Rattle.std.proofs.Common.{◌≡◌, ◌+◌, ◌≤◌, true, ◌++◌, length}
use Rattle.text.specs.Bytes.{every}
use Rattle.text.specs.Forms.{a_name}
use Rattle.text.specs.Listings.{listing}
use Rattle.text.specs.Texts.{texts_of}
use Rattle.contract.proofs.held.NameList.of.Given as goal

abbrev pub invariant-loop-name : goal.invariant-loop-name
invariant-loop-name l = record {
  room : length l.texts.items + length (listing l.name-iterator) ≤ 8;
  named : every a_name (listing l.name-iterator) ≡ true;
  all : texts_of l.texts.items ++ listing l.name-iterator ≡ listing l.fn.names;
}
