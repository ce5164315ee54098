use Rattle.std.proofs.Common.{◌≡◌, true, false, rules, ◌∙◌}
use Rattle.std.proofs.lemmas.Iterator.{YieldsList-from_slice, cases_from_any}
use Rattle.std.specs.Str.{bytes_eq}
use Rattle.text.specs.Texts.{text_of}
use Rattle.text.proofs.Tests.{some_found, some_map}
use Rattle.text.proofs.texts.is_among.Goals as goal

pub returns : goal.returns
returns g c =
    let t = c.args.text.now in
    some_found (λ x. bytes_eq t (text_of x)) c.args.texts.now c.any.result
    (cases_from_any _ _ _ (λ x. bytes_eq t (text_of x) ≡ true) (λ x. bytes_eq t (text_of x) ≡ false) c.any.ensures.ran
    (YieldsList-from_slice c.args.texts.now cc) (λ x q k. search rules) (λ x q k. search rules))
    ∙ some_map (bytes_eq t) text_of c.args.texts.now
