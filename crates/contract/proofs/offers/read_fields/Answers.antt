-- The fields from the left: each stage lemma says that the reader has come to the next field.
use Rattle.std.proofs.Common.{ℕ, ◌≤◌, [], length, drop, Ok, sym, ap, ◌∙◌, arith}
use Rattle.text.specs.Bytes.{Bytes, piece}
use Rattle.text.specs.Forms.{id_form, names_form}
use Rattle.text.specs.Rows.{fields, form_rows}
use Rattle.line.specs.declared.reader.Reader.{Reader}
use Rattle.line.specs.Reads.{seen, bytes_of, names_of, as_read, as_word, as_names}
use Rattle.line.proofs.Stages.{Reached, Says, begun, onward, stopped}
use Rattle.line.proofs.Reports.{read_value, word_bytes}
use Rattle.contract.specs.declared.types.ContractType.TheVariants.{Au}
use Rattle.contract.specs.ContractList.{type_form, style_form, contract_forms, offered}
use Rattle.contract.specs.Styles.{style_said}
use Rattle.contract.proofs.NameTexts.{fits_text, some_text, text_kept}
use Rattle.contract.proofs.Readings.{stops, id_short, style_value, restyled, style_of}
use Rattle.contract.proofs.offers.read_fields.Goals as goal
use Rattle.contract.proofs.offers.read_fields.Goals.{After-new-reader, In_ok-id, In_ok-kind, In_ok-style, In_ok-names}

abbrev At : Bytes → ℕ → Reader → Type 0
At bs k r = Reached bs (form_rows (λ f. 51) 1 contract_forms) (offered bs) r k (drop k (form_rows (λ f. 51) 1 contract_forms))

at_id : (c : goal.After-new-reader) → At c.args.text.now 0 c.new-reader.result
at_id c = begun _ _ _ _ c.new-reader.ensures.place c.new-reader.ensures.line

past_id : (c : goal.In_ok-id) → At c.args.text.now 1 c.id.new.self × Says as_word (id_form 1 32) 0 c.args.text.now (seen c.in_ok-id.id)
past_id c =
    let p = c.in_ok-id.ensures in
    onward as_word (id_form 1 32) 0 (omega arith) (omega (arith, c.requires)) (at_id (goal.at.In_ok-id c).After-new-reader) p.told p.moved

past_kind : (c : goal.In_ok-kind) → At c.args.text.now 2 c.value.new.self × Says as_read type_form 1 c.args.text.now c.in_ok-kind.kind
past_kind c =
    let p = c.in_ok-kind.ensures in
    onward as_read type_form 1 (omega arith) (omega (arith, c.requires)) (past_id (goal.at.In_ok-kind c).In_ok-id).0 p.told p.moved

past_style : (c : goal.In_ok-style) → At c.args.text.now 3 c.value-2.new.self × Says as_read style_said 2 c.args.text.now c.in_ok-style.style
past_style c =
    let p = c.in_ok-style.ensures in
    onward as_read style_said 2 (omega arith) (omega (arith, c.requires)) (restyled (past_kind (goal.at.In_ok-style c).In_ok-kind).0) p.told p.moved

past_names : (c : goal.In_ok-names) → At c.args.text.now 4 c.names.new.self × Says as_names names_form 3 c.args.text.now (seen c.in_ok-names.names)
past_names c =
    let p = c.in_ok-names.ensures in
    onward as_names names_form 3 (omega arith) (omega (arith, c.requires)) (past_style (goal.at.In_ok-names c).In_ok-style).0 p.told p.moved

pub returns-in_err-id : goal.returns-in_err-id
returns-in_err-id c =
    stops 0 _ _ c.from_residual.ensures.1 (stopped as_word (id_form 1 32) 0 (omega arith) (omega (arith, c.requires)) (at_id (goal.at.returns-in_err-id c).After-new-reader) c.in_err-id.ensures.told)

pub returns-in_err-kind : goal.returns-in_err-kind
returns-in_err-kind c =
    stops 1 _ _ c.from_residual-in_err-kind.ensures.1 (stopped as_read type_form 1 (omega arith) (omega (arith, c.requires)) (past_id (goal.at.returns-in_err-kind c).In_ok-id).0 c.in_err-kind.ensures.told)

pub returns-in_err-style : goal.returns-in_err-style
returns-in_err-style c =
    stops 2 _ _ c.from_residual-in_err-style.ensures.1 (stopped as_read style_said 2 (omega arith) (omega (arith, c.requires)) (restyled (past_kind (goal.at.returns-in_err-style c).In_ok-kind).0) c.in_err-style.ensures.told)

pub returns-in_err-names : goal.returns-in_err-names
returns-in_err-names c =
    stops 3 _ _ c.from_residual-in_err-names.ensures.1 (stopped as_names names_form 3 (omega arith) (omega (arith, c.requires)) (past_style (goal.at.returns-in_err-names c).In_ok-style).0 c.in_err-names.ensures.told)

pub unwrap-requires : goal.unwrap-requires
unwrap-requires c =
    let s = (past_id (goal.at.unwrap-requires c).In_ok-id).1 in
    let b = c.bytes.ensures ∙ ap bytes_of s.2 ∙ word_bytes _ s.0 in
    let l : length c.bytes.result.now ≤ 32 = omega (arith, ap length b, id_short (piece 1 (fields c.args.text.now)) s.0 s.1) in
    some_text _ _ (fits_text _ c.bytes.result.now l c.new.ensures)

pub returns : goal.returns
returns c =
    let h = goal.at.returns c in
    let s-id = (past_id h.In_ok-id).1 in
    let s-kind = (past_kind h.In_ok-kind).1 in
    let s-style = (past_style h.In_ok-style).1 in
    let s-names = (past_names h.In_ok-names).1 in
    let b = c.bytes.ensures ∙ ap bytes_of s-id.2 ∙ word_bytes _ s-id.0 in
    let l : length c.bytes.result.now ≤ 32 = omega (arith, ap length b, id_short (piece 1 (fields c.args.text.now)) s-id.0 s-id.1) in
    let kept = text_kept _ _ _ c.unwrap.ensures (fits_text _ c.bytes.result.now l c.new.ensures) in
    (λ i. Ok (record {
      contract_id = read_value [] s-id.1 (kept ∙ b) i;
      contract_type = read_value Au s-kind.1 s-kind.2 i;
      style = (ap style_of s-style.2 ∙ style_value (style_form (piece 3 (fields c.args.text.now))) s-style.0 s-style.1) i;
      index_names = read_value [] s-names.1 (c.of.ensures ∙ c.names-2.ensures ∙ ap names_of s-names.2) i;
    }))
    ∙ sym (past_names h.In_ok-names).0.is
