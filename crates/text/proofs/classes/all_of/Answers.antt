use Rattle.std.proofs.Common.{◌≡◌, true, ◌&&◌, arith, ◌∙◌}
use Rattle.std.specs.List.{fold}
use Rattle.std.proofs.lemmas.Grind.{common_steps}
use Rattle.text.proofs.Tests.{fold_every}
use Rattle.text.proofs.classes.all_of.Goals as goal

pub returns : goal.returns
returns g c =
    let e : c.fold.result ≡ fold (λ good b. good && g.C.ByteClass.member b) true c.args.text.now = grind (arith, common_steps) in
    e ∙ fold_every g.C.ByteClass.member true c.args.text.now
