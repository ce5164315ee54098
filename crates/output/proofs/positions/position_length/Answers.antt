use Rattle.std.proofs.Common.{ℕ, List, [], ◌∷◌, ◌++◌, length, decimal, sym, ap, arith, length-append, w64}
use Rattle.std.specs.Fmt.{signed_decimal}
use Rattle.std.proofs.lemmas.Int.{to_z-of_z}
use Rattle.output.proofs.Reports.{position_none, position_some}
use Rattle.output.proofs.positions.position_length.Goals as goal

pub returns-then-sum-eq0 : goal.returns-then-sum-eq0
returns-then-sum-eq0 c = sym (ap length (position_none c.args.contract c.args.sum c.ranges.sum c.if-sum-eq0.true))

pub returns : goal.returns
returns c =
    let z = c.args.sum in
    let words : List ℕ = 84 ∷ 32 ∷ (decimal c.args.contract ++ (32 ∷ signed_decimal z)) in
    let same = ap (λ y. length (84 ∷ 32 ∷ (decimal c.args.contract ++ (32 ∷ signed_decimal y)))) (to_z-of_z w64 z c.ranges.sum) in
    let text = ap length (position_some c.args.contract z c.if-sum-eq0.false) in
    omega (arith, ap length c.position.ensures, same, text, length-append words (10 ∷ []))
