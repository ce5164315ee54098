use Rattle.std.proofs.Common.{List, [], ◌∷◌, ◌&&◌, Bool, ◌≡◌, refl, ap, ◌∙◌, rules, tests}
use Rattle.std.specs.List.{list_all}
use Rattle.std.proofs.lemmas.Iterator.Consumers.{YieldsList-from_first}
use Rattle.std.proofs.lemmas.Iterator.Search.{all_from_yields_List}
use Rattle.text.specs.Bytes.{every, among}
use Rattle.text.specs.Listings.{listing}
use Rattle.text.specs.Texts.{texts_of}
use Rattle.contract.proofs.names.has_all.Goals as goal

all_is_every : {X : Type 0} (p : X → Bool) (xs : List X) → list_all p xs ≡ every p xs
all_is_every p [] = refl
all_is_every p (x ∷ xs) = ap (λ b. p x && b) (all_is_every p xs)

pub returns : goal.returns
returns c =
    let test = among (texts_of c.args.texts.now) in
    all_from_yields_List test c.all.new.self _ _ c.all.ensures.ran (YieldsList-from_first (λ n. n.now) listing (listing c.args.names) refl) (λ x b q k. search (rules, tests))
    ∙ all_is_every test (listing c.args.names)
