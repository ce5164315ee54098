use Rattle.std.proofs.Common.{refl}
use Rattle.life.specs.Acts.{life_in}
use Rattle.life.specs.Keys.{parts_in}
use Rattle.life.specs.Parts.{key_parts, life_parts}
use Rattle.claims.proofs.Sizes.{some_made, made_is}
use Rattle.claims.proofs.Tables.{by_line, by_list, by_none, key_made, life_made}
use Rattle.claims.proofs.claims.claim.Goals as goal

pub returns-in_err-report : goal.returns-in_err-report
returns-in_err-report c = by_line c.args.contracts.now c.args.line.now _ _ c.from_residual.ensures.1 c.in_err-report.ensures

pub returns-in-Err : goal.returns-in-Err
returns-in-Err c =
    by_list c.args.contracts.now c.args.line.now c.in_ok-report.report c.in_ok-report.ensures
    c.in-Err.fault _ _ c.field.ensures c.field_offset.ensures c.in-Err.ensures.told

pub unwrap-key-requires : goal.unwrap-key-requires
unwrap-key-requires c =
    some_made parts_in refl _ _
    (key_made c.args.line.now c.in_ok-report.report c.in_ok-report.ensures _ _ c.in-Ok.ensures.small c.new.ensures)

pub unwrap-told-requires : goal.unwrap-told-requires
unwrap-told-requires c =
    some_made life_in refl _ _
    (life_made c.args.line.now c.in_ok-report.report c.in_ok-report.ensures _ c.new-2.ensures)

pub returns : goal.returns
returns c =
    let cs = c.args.contracts.now in
    let bs = c.args.line.now in
    let r = c.in_ok-report.report in
    let e = c.in_ok-report.ensures in
    let k = made_is parts_in key_parts (λ _. refl) _ _ _ c.unwrap-key.ensures (key_made bs r e _ _ c.in-Ok.ensures.small c.new.ensures) in
    let l = made_is life_in life_parts (λ _. refl) _ _ _ c.unwrap-told.ensures (life_made bs r e _ c.new-2.ensures) in
    by_none cs bs r e _ c.unwrap-key.result c.unwrap-told.result c.in-Ok.ensures.told k l
