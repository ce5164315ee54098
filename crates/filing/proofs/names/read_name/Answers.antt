use Rattle.std.proofs.Common.{◌≡◌, length, take, drop, Some, None, IfOk, Option}
use Rattle.std.specs.Option.{ok_or}
use Rattle.text.specs.Bytes.{Bytes}
use Rattle.filing.specs.declared.names.EntityCode.{EntityCode}
use Rattle.filing.specs.declared.names.NameFault.{NameFault}
use Rattle.filing.specs.Codes.{code_part, code_there}
use Rattle.filing.proofs.NameParts.{answered}
use Rattle.filing.proofs.names.read_name.Goals as goal

part : (name : Bytes) (o : Option EntityCode) (e : NameFault) → code_part o ≡ code_there name → IfOk (ok_or o e) (λ code. code.text.now ≡ take (length code.text.now) (drop code.at name))
part name None e told = tt
part name (Some code) e told = (answered name code.text.now code.at told).1

pub returns-clause-part : goal.returns-clause-part
returns-clause-part c = rw c.ok_or.ensures.value (part c.args.name.now c.code_in.result _ c.code_in.ensures)
