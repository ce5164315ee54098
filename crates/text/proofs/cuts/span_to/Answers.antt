use Rattle.std.proofs.Common.{◌≡◌, ◌≢◌, ℕ, ◌+◌, List, ◌∷◌, sym, refl, ◌∙◌, rules, arith}
use borrow.Author.Tests.{tests}
use Rattle.std.proofs.lemmas.Bool.Decides.{nat_tests}
use Rattle.std.proofs.lemmas.Iterator.{YieldsList-from_slice, IsFirst-from_position, index_from_first}
use Rattle.text.specs.Cuts.{span_to}
use Rattle.text.proofs.cuts.span_to.Goals as goal

span_here : (sep b : ℕ) (bs : List ℕ) → b ≡ sep → span_to sep (b ∷ bs) ≡ 0
span_here sep b bs e = grind (arith, nat_tests)

span_on : (sep b : ℕ) (bs : List ℕ) → b ≢ sep → span_to sep (b ∷ bs) ≡ span_to sep bs + 1
span_on sep b bs n = grind (arith, nat_tests)

pub returns-clause-value : goal.returns-clause-value
returns-clause-value c =
    let sep = c.args.separator in
    c.unwrap_or.ensures
    ∙ sym (index_from_first (span_to sep) (λ b. b ≡ sep) (λ b. b ≢ sep) refl (span_here sep) (span_on sep) c.args.text.now c.position.result
    (IsFirst-from_position _ _ _ (λ b. b ≡ sep) (λ b. b ≢ sep) c.position.ensures.ran (YieldsList-from_slice c.args.text.now cc)
    (λ x q k. search (rules, tests)) (λ x q k. search (rules, tests))))
