use Rattle.std.proofs.Common.{◌≡◌, ap, ◌∙◌, w64, to_z, of_z, rules}
use Rattle.measure.specs.Sheets.{position_of}
use Rattle.measure.proofs.Exact.{exact, exact_plain}
use Rattle.measure.proofs.Residues.{total_residue}
use Rattle.measure.proofs.sheet.Sheet.position.Goals as goal

pub returns : goal.returns
returns c =
    let s = c.args.self.now in
    let n = c.args.contract in
    let shows : to_z w64 (of_z w64 c.map_or.result) ≡ position_of s n = search rules in
    record {
      shown = shows;
      wraps = λ ps w e. shows ∙ ap (λ t. position_of t n) e ∙ ap (to_z w64) (total_residue n ps w);
      exact = λ ps few w e. shows ∙ exact n ps few w s e;
      kept = λ ps few e. shows ∙ exact_plain n ps few s e;
    }
