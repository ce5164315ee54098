-- What a line claims, by the contracts listed.
use Rattle.std.specs.Prelude.{List, Result}
use Rattle.text.specs.declared.words.Action.{Action}
use Rattle.text.specs.Bytes.{Bytes}
use Rattle.text.specs.Rows.{first_fit, Refusal, settled_by}
use Rattle.contract.specs.ContractList.{Contract, Told}
use Rattle.life.specs.Parts.{KeyParts, LifeParts}
use Rattle.life.specs.Rules.{new_life}
use Rattle.book.specs.Book.{told_by, key_of, looking_rows}

-- what a line claims: the key that it names, its action, and the life that it tells of
pub record Claimed : Type 0 where
  pub of_key : KeyParts
  pub acts : Action
  pub tells : LifeParts

abbrev pub claimed_by : Told → Claimed
claimed_by x = record {
  of_key = key_of x;
  acts = x.says.action;
  tells = new_life x.says.time x.says.quantity x.says.price;
}

-- refused by the first of the rows 1, 2, 11 to 21, 31 to 33 that fits, or else this claim
abbrev pub claiming : List Contract → Bytes → Result Claimed Refusal
claiming cs bs = settled_by bs (claimed_by (told_by cs bs)) (first_fit looking_rows (bs, told_by cs bs))
