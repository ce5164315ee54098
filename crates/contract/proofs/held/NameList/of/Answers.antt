use Rattle.std.proofs.Common.{◌≡◌, ◌∷◌, length, sym, ap, ◌∙◌, arith}
use Rattle.std.proofs.lemmas.Bool.{and_parts}
use Rattle.text.specs.Bytes.{every}
use Rattle.text.specs.Forms.{a_name}
use Rattle.text.specs.Listings.{listing}
use Rattle.contract.proofs.NameTexts.{one_more, fits_text, text_kept, name_short}
use Rattle.contract.proofs.held.NameList.of.Goals as goal

pub loop-name-preserved : goal.loop-name-preserved
loop-name-preserved c =
    let name = c.in-Some.name.now in
    let more = listing c.next.new.self in
    let f : listing c.loop-name.name-iterator ≡ name ∷ more = c.in-Some.ensures.steps in
    let n = and_parts (a_name name) (every a_name more) (ap (every a_name) (sym f) ∙ c.loop-name.invariant.named) in
    let kept = text_kept _ _ _ c.unwrap.ensures (fits_text _ name (name_short _ n.0) c.new.ensures) in
    let l = ap length f in
    record {
      room = omega (arith, c.push.ensures.len);
      named = n.1;
      all = one_more c.loop-name.texts.items c.push.new.self.items _ name _ more _ c.push.ensures.items kept f c.loop-name.invariant.all;
    }
