use Rattle.filing.proofs.Adding.{code_text}
use Rattle.filing.proofs.entities.code_of.Goals as goal

pub returns-then-is_code : goal.returns-then-is_code
returns-then-is_code c = code_text c.args.text.now _ c.if-is_code.ensures c.new.ensures
