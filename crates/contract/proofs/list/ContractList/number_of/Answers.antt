use Rattle.contract.proofs.Limits.{held_within}
use Rattle.contract.proofs.list.ContractList.number_of.Goals as goal

pub returns-then-eq-clause-limits : goal.returns-then-eq-clause-limits
returns-then-eq-clause-limits c =
    held_within c.self.inside _ c.self.invariant c.self.view_is

pub returns-in_err-found-clause-limits : goal.returns-in_err-found-clause-limits
returns-in_err-found-clause-limits c =
    held_within c.self.inside _ c.self.invariant c.self.view_is

pub returns-then-not-has_all-clause-limits : goal.returns-then-not-has_all-clause-limits
returns-then-not-has_all-clause-limits c =
    held_within c.self.inside _ c.self.invariant c.self.view_is

pub returns-then-wants_name-clause-limits : goal.returns-then-wants_name-clause-limits
returns-then-wants_name-clause-limits c =
    held_within c.self.inside _ c.self.invariant c.self.view_is

pub returns-clause-limits : goal.returns-clause-limits
returns-clause-limits c =
    held_within c.self.inside _ c.self.invariant c.self.view_is
