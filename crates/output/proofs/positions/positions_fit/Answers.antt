use Rattle.std.proofs.Common.{length, get_or, ℤ, pos, sym, ap, ◌∙◌, arith, w64, SFits, rules, le-leb}
use borrow.Author.Tests.{lt-leb}
use Rattle.std.proofs.lemmas.Int.{to_z-of_z}
use Rattle.output.specs.Positions.{position_text, positions_text}
use Rattle.output.proofs.Reports.{length_positions_more, positions_all}
use Rattle.output.proofs.positions.positions_fit.Goals as goal

pub returns-then-n-left : goal.returns-then-n-left
returns-then-n-left c =
    let sums = c.args.sums.now in
    let k = c.loop-contract.contract in
    let z : ℤ = get_or sums k (pos 0) in
    let fits : SFits w64 z = search rules in
    let long = c.position_length-n.ensures ∙ ap (λ y. length (position_text k y)) (to_z-of_z w64 z fits) in
    let more = length_positions_more sums k c.loop-contract-test.true in
    sym (lt-leb (length (positions_text sums)) c.args.room (omega (arith, long, more, c.loop-contract.invariant)))

pub loop-contract-preserved : goal.loop-contract-preserved
loop-contract-preserved c =
    let sums = c.args.sums.now in
    let k = c.loop-contract.contract in
    let z : ℤ = get_or sums k (pos 0) in
    let fits : SFits w64 z = search rules in
    let long = c.position_length-n.ensures ∙ ap (λ y. length (position_text k y)) (to_z-of_z w64 z fits) in
    let more = length_positions_more sums k c.loop-contract-test.true in
    omega (arith, long, more, c.loop-contract.invariant)

pub returns : goal.returns
returns c =
    let sums = c.args.sums.now in
    let none = ap length (positions_all sums c.loop-contract.contract c.loop-contract-test.false) in
    sym (le-leb (length (positions_text sums)) c.args.room (omega (arith, none, c.loop-contract.invariant)))
