use Rattle.std.proofs.Common.{◌<◌, ◌≤◌, [], ◌∷◌, ◌++◌, length, arith, length-append}
use Rattle.output.proofs.Puts.{then}
use Rattle.output.proofs.Writes.{fills, leaves}
use Rattle.output.proofs.lines.write_parts.Goals as goal
use Rattle.output.proofs.lines.write_parts.Goals.{then-front-out-via-then-front-out, then-front-out-via-else-front-out+then-last-out}

pub returns-then-front-out : goal.returns-then-front-out
returns-then-front-out c =
    let front = c.args.front.now in
    let last = c.args.last.now in
    let short : length c.args.out.now < length (front ++ (last ++ (10 ∷ []))) =
    elim c.then-front-out.branch [
      | then-front-out-via-then-front-out w ↦ simp length-append (omega (arith, w.if-front-out.true))
      | then-front-out-via-else-front-out+then-last-out w ↦ simp length-append (omega (arith, w.if-front-out.false, w.if-last-out.true))
    ] in
    leaves short

pub returns : goal.returns
returns c =
    let front = c.args.front.now in
    let last = c.args.last.now in
    let room : length (front ++ (last ++ (10 ∷ []))) ≤ length c.args.out.now = simp length-append (omega (arith, c.if-front-out.false, c.if-last-out.false)) in
    fills (then c.put-at.ensures (then c.put-at-2.ensures c.put.ensures)) room
