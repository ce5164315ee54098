use Rattle.std.proofs.Common.{sym, ◌∙◌, rules}
use Rattle.std.proofs.lemmas.Iterator.Adapters.{position_from-zero}
use Rattle.contract.specs.Held.{has_id}
use Rattle.contract.proofs.Searches.{no_place, too_long}
use Rattle.contract.proofs.contracts.place_of.Goals as goal

pub returns-in_err-id : goal.returns-in_err-id
returns-in_err-id c =
    let id = c.args.id.now in
    let long = too_long id (search rules) in
    let held = c.args.contracts.now in
    c.from_residual.ensures ∙ sym (position_from-zero (has_id id) held ∙ no_place 0 held id long)
