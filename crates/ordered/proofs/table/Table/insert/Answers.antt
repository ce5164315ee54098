use Rattle.std.proofs.Common.{rules}
use Rattle.ordered.proofs.Rows.{opened}
use Rattle.ordered.proofs.Changes.{Inserted, inserted}
use Rattle.ordered.proofs.table.Table.insert.Goals as goal

pub invariant_of-self : goal.invariant_of-self
invariant_of-self c =
    let w : Inserted c.args.self.now.entries.now _ c.args.self.now.count c.args.i c.args.entry = search rules in
    record { held = (inserted _ _ _ _ _ _ (opened c.args.self.now.held) c.requires.room c.requires.place w).held }

pub returns : goal.returns
returns c =
    let w : Inserted c.args.self.now.entries.now _ c.args.self.now.count c.args.i c.args.entry = search rules in
    inserted _ _ _ _ _ _ (opened c.args.self.now.held) c.requires.room c.requires.place w
