use Rattle.std.proofs.Common.{◌≡◌, ◌+◌, ◌-◌, ◌++◌, length, get_or, take, drop, ℤ, pos, Ok, sym, ap, ◌∙◌, subst, arith, length-drop, w64, SFits, rules, leb-true}
use Rattle.std.proofs.lemmas.List.{length-take-le, take_all, take_rest}
use Rattle.std.proofs.lemmas.Int.{to_z-of_z}
use Rattle.output.specs.Buffers.{Wrote}
use Rattle.output.specs.Positions.{position_text, positions_from, positions_text}
use Rattle.output.proofs.Reports.{positions_more, positions_all, drop_part, take_part, part_within}
use Rattle.output.proofs.Writes.{whole, done, short, rest_written}
use Rattle.output.proofs.positions.write_positions.Goals as goal

pub returns-in_err-at : goal.returns-in_err-at
returns-in_err-at c =
    let sums = c.args.sums.now in
    let text = positions_text sums in
    let k = c.loop-contract.contract in
    let z : ℤ = get_or sums k (pos 0) in
    let fits : SFits w64 z = search rules in
    let inv = c.loop-contract.invariant in
    let left = inv.0 ∙ positions_more sums k c.loop-contract-test.true in
    let within = part_within text (position_text k z) (positions_from (k + 1) (drop (k + 1) sums)) c.loop-contract.at left inv.1 in
    let room = leb-true (length text) (length c.args.out.now) (sym c.positions_fit.ensures ∙ c.if-not-positions_fit.false) in
    let tight = short c.in_err-at.ensures in
    let long = ap length (take_rest c.loop-contract.out c.loop-contract.at) ∙ length-drop c.loop-contract.at c.loop-contract.out in
    let same = ap (λ y. length (position_text k y)) (to_z-of_z w64 z fits) in
    absurd (omega (arith, within, room, tight, long, same, c.loop-contract.auto.out))

pub loop-contract-preserved : goal.loop-contract-preserved
loop-contract-preserved c =
    let was = c.args.out.now in
    let sums = c.args.sums.now in
    let text = positions_text sums in
    let at = c.loop-contract.at in
    let n = c.in_ok-at.field-0 in
    let k = c.loop-contract.contract in
    let z : ℤ = get_or sums k (pos 0) in
    let fits : SFits w64 z = search rules in
    let inv = c.loop-contract.invariant in
    let part = position_text k z in
    let rest = positions_from (k + 1) (drop (k + 1) sums) in
    let left = inv.0 ∙ positions_more sums k c.loop-contract-test.true in
    let out = c.loop-contract.out in
    let now = c.write_position.new.out in
    let told = done (subst (λ y. Wrote (take (length out - at) (drop at out)) (position_text k y) (Ok n) now) (to_z-of_z w64 z fits) c.in_ok-at.ensures) in
    let begun : at ≡ length (take at text) = sym (length-take-le at text inv.1) in
    let written = rest_written was (take at text) part at n out now begun inv.2 told.holds in
    let more = subst (λ j. take (at + j) text ≡ take at text ++ part) (sym told.long) (take_part text part rest at left) in (
      subst (λ j. drop (at + j) text ≡ rest) (sym told.long) (drop_part text part rest at left),
      omega (arith, told.long, part_within text part rest at left inv.1),
      written ∙ ap (λ l. l ++ drop (at + n) was) (sym more),
    )

pub returns : goal.returns
returns c =
    let sums = c.args.sums.now in
    let text = positions_text sums in
    let at = c.loop-contract.at in
    let inv = c.loop-contract.invariant in
    let none = ap length (inv.0 ∙ positions_all sums c.loop-contract.contract c.loop-contract-test.false) in
    let long : at ≡ length text = omega (arith, none, length-drop at text, inv.1) in
    let room = leb-true (length text) (length c.args.out.now) (sym c.positions_fit.ensures ∙ c.if-not-positions_fit.false) in
    whole long room (inv.2 ∙ ap (λ l. l ++ drop at c.args.out.now) (take_all at text (omega arith)))
