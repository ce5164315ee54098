use Rattle.std.proofs.Common.{subst}
use Rattle.filing.specs.Entities.{CodesWithin}
use Rattle.filing.proofs.Adding.{codes_within}
use Rattle.filing.proofs.entity_list.EntityList.knows.Goals as goal

pub returns-clause-limits : goal.returns-clause-limits
returns-clause-limits c = subst CodesWithin c.self.view_is (codes_within c.self.inside.codes.items)
