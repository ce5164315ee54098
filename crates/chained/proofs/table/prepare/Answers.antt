use Rattle.std.proofs.Common.{length, ap, ⊎_elim, arith}
use Rattle.std.proofs.lemmas.List.{get_or_past}
use Rattle.std.proofs.lemmas.Bool.{cases_lt}
use Rattle.chained.specs.declared.slot.Slot.{Slot}
use Rattle.chained.specs.Table.{none}
use Rattle.chained.proofs.table.prepare.Goals as goal

pub returns : goal.returns
returns c =
    let t = c.loop-slot.slots in
    let inv = c.loop-slot.invariant in
    record {
      size = c.loop-slot.auto.slots;
      small = λ _. record {
        size = c.loop-slot.auto.slots;
        heads = λ m. ⊎_elim
            (λ l. inv.0 m (omega arith))
            (λ l. ap (λ (x : Slot). x.head) (get_or_past t m none l))
            (cases_lt m (length t));
        nexts = inv.1;
        keys = inv.2;
        lives = inv.3;
      };
      large = λ l. absurd (omega arith);
    }
