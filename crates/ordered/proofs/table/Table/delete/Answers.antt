use Rattle.std.proofs.Common.{rules, refl}
use Rattle.ordered.proofs.Rows.{opened}
use Rattle.ordered.proofs.Changes.{Deleted, deleted}
use Rattle.ordered.proofs.table.Table.delete.Goals as goal

pub invariant_of-self : goal.invariant_of-self
invariant_of-self c =
    let w : Deleted c.args.self.now.entries.now c.copy_within.new.self c.args.self.now.count c.args.i = search rules in
    record { held = (deleted _ _ _ _ _ (opened c.args.self.now.held) c.requires refl w).held }

pub returns : goal.returns
returns c =
    let w : Deleted c.args.self.now.entries.now c.copy_within.new.self c.args.self.now.count c.args.i = search rules in
    deleted _ _ _ _ _ (opened c.args.self.now.held) c.requires refl w
