use Rattle.std.proofs.Common.{◌≡◌, false, leb, [], ◌∷◌, ◌++◌, length, subst, sym, ap, ◌∙◌, arith}
use Rattle.std.proofs.lemmas.List.{length-map}
use Rattle.std.proofs.lemmas.Bool.Decides.{nat_tests}
use Rattle.text.specs.Texts.{text_of, text_in}
use Rattle.text.proofs.Amongs.{texts_push}
use Rattle.filing.specs.Entities.{CodesWithin}
use Rattle.filing.proofs.Adding.{says_itself, leaves, codes_within}
use Rattle.filing.proofs.entity_list.EntityList.add.Goals as goal

pub returns-in_err-text-clause-limits : goal.returns-in_err-text-clause-limits
returns-in_err-text-clause-limits c =
    subst CodesWithin c.self.view_is (codes_within c.self.inside.codes.items)

pub returns-clause-limits : goal.returns-clause-limits
returns-clause-limits c = codes_within c.push_reserved.new.self.items

pub returns-clause-list : goal.returns-clause-list
returns-clause-list c =
    let es = c.args.self.now in
    let code = c.args.code.now in
    let codes = c.self.inside.codes.items in
    let l = length-map codes text_of in
    let e = ap length c.self.view_is in
    let room : leb 32 (length es) ≡ false = grind (arith, nat_tests) in
    let formed = sym (ap text_in c.in_ok-text.ensures.ok_part) ∙ c.code_of.ensures in
    texts_push codes _ c.in_ok-text.text code c.push_reserved.ensures.items (says_itself code _ formed)
    ∙ ap (λ ts. ts ++ code ∷ []) c.self.view_is
    ∙ leaves es code _ _ _ formed c.if-knows.ensures.known room
