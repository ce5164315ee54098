-- Each part that `next` gives is one more piece of the name.
use Rattle.std.proofs.Common.{[], ◌∷◌, refl, ap, ◌∙◌, rules}
use Rattle.filing.specs.Codes.{code_part}
use Rattle.filing.proofs.NameParts.{Cut, cut_none, cut_next, cut_all, cut_more, ended, too_few, unlike, code_said}
use Rattle.filing.proofs.names.code_in.Goals as goal
use Rattle.filing.proofs.names.code_in.Goals.{In_ok-date, In_ok-schema, In_ok-version, In_ok-code, In_ok-last}

past_date : (c : goal.In_ok-date) → Cut c.args.name.now (c.in_ok-date.date.now ∷ []) c.next.new.self
past_date c =
    let none = cut_none {s = c.split-parts.result} c.split-parts.ensures.rest c.split-parts.ensures.done in
    cut_next _ none c.in_ok-date.date c.in_ok-date.ensures.steps (λ x b q k. search rules)

past_schema : (c : goal.In_ok-schema) → Cut c.args.name.now (c.in_ok-date.date.now ∷ c.in_ok-schema.schema.now ∷ []) c.next-2.new.self
past_schema c = cut_next _ (past_date (goal.at.In_ok-schema c).In_ok-date) c.in_ok-schema.schema c.in_ok-schema.ensures.steps (λ x b q k. search rules)

past_version : (c : goal.In_ok-version)
    → Cut c.args.name.now (c.in_ok-date.date.now ∷ c.in_ok-schema.schema.now ∷ c.in_ok-version.version.now ∷ []) c.next-3.new.self
past_version c = cut_next _ (past_schema (goal.at.In_ok-version c).In_ok-schema) c.in_ok-version.version c.in_ok-version.ensures.steps (λ x b q k. search rules)

past_code : (c : goal.In_ok-code)
    → Cut c.args.name.now (c.in_ok-date.date.now ∷ c.in_ok-schema.schema.now ∷ c.in_ok-version.version.now ∷ c.in_ok-code.code.now ∷ []) c.next-4.new.self
past_code c =
    cut_next _ (past_version (goal.at.In_ok-code c).In_ok-version) c.in_ok-code.code c.in_ok-code.ensures.steps (λ x b q k. search rules)

past_last : (c : goal.In_ok-last)
    → Cut c.args.name.now
    (c.in_ok-date.date.now ∷ c.in_ok-schema.schema.now ∷ c.in_ok-version.version.now ∷ c.in_ok-code.code.now ∷ c.in_ok-last.last.now ∷ []) c.next-5.new.self
past_last c = cut_next _ (past_code (goal.at.In_ok-last c).In_ok-code) c.in_ok-last.last c.in_ok-last.ensures.steps (λ x b q k. search rules)

pub returns-in_err-schema : goal.returns-in_err-schema
returns-in_err-schema c =
    ap code_part c.from_residual-in_err-schema.ensures
    ∙ too_few c.args.name.now _ (cut_all (past_date (goal.at.returns-in_err-schema c).In_ok-date) c.in_err-schema.ensures.steps.0) refl

pub returns-in_err-version : goal.returns-in_err-version
returns-in_err-version c =
    ap code_part c.from_residual-in_err-version.ensures
    ∙ too_few c.args.name.now _ (cut_all (past_schema (goal.at.returns-in_err-version c).In_ok-schema) c.in_err-version.ensures.steps.0) refl

pub returns-in_err-code : goal.returns-in_err-code
returns-in_err-code c =
    ap code_part c.from_residual-in_err-code.ensures
    ∙ too_few c.args.name.now _ (cut_all (past_version (goal.at.returns-in_err-code c).In_ok-version) c.in_err-code.ensures.steps.0) refl

pub returns-in_err-last : goal.returns-in_err-last
returns-in_err-last c =
    ap code_part c.from_residual-in_err-last.ensures
    ∙ too_few c.args.name.now _ (cut_all (past_code (goal.at.returns-in_err-last c).In_ok-code) c.in_err-last.ensures.steps.0) refl

pub returns-then-is_some : goal.returns-then-is_some
returns-then-is_some c =
    let all = cut_more (past_last (goal.at.returns-then-is_some c).In_ok-last) (ended _ _ _ _ c.next-6.ensures.steps c.if-is_some.ensures) in
    too_few c.args.name.now _ all.2 refl

pub returns-then-not-surround_code : goal.returns-then-not-surround_code
returns-then-not-surround_code c =
    let all = cut_all (past_last (goal.at.returns-then-not-surround_code c).In_ok-last) (ended _ _ _ _ c.next-6.ensures.steps c.if-is_some.ensures) in
    unlike c.args.name.now _ _ _ _ _ all c.if-not-surround_code.ensures

pub returns-then-not-is_code : goal.returns-then-not-is_code
returns-then-not-is_code c =
    let all = cut_all (past_last (goal.at.returns-then-not-is_code c).In_ok-last) (ended _ _ _ _ c.next-6.ensures.steps c.if-is_some.ensures) in
    code_said c.args.name.now _ _ _ _ _ all _ c.if-not-surround_code.ensures c.if-not-is_code.ensures

pub returns : goal.returns
returns c =
    let all = cut_all (past_last (goal.at.returns c).In_ok-last) (ended _ _ _ _ c.next-6.ensures.steps c.if-is_some.ensures) in
    code_said c.args.name.now _ _ _ _ _ all _ c.if-not-surround_code.ensures c.if-not-is_code.ensures
