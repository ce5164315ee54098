-- The fields from the left: each stage lemma says that the reader has come to the next field.
use Rattle.std.proofs.Common.{ℕ, [], drop, None, Ok, sym, ap, ◌∙◌, arith}
use Rattle.text.specs.declared.words.Kind.TheVariants.{Order}
use Rattle.text.specs.declared.words.Side.TheVariants.{Buy}
use Rattle.text.specs.declared.words.Action.TheVariants.{New}
use Rattle.text.specs.Bytes.{Bytes, piece}
use Rattle.text.specs.Forms.{kind_form, id_form, venue_form, code_form, side_form, action_form, time_form, quantity_form, price_form, names_form}
use Rattle.text.specs.Rows.{fields}
use Rattle.line.specs.declared.reader.Reader.{Reader}
use Rattle.line.specs.Lines.{field_rows, report}
use Rattle.line.specs.Reads.{seen, bytes_of, number_of, signed_of, names_of, as_read, as_word, as_number, as_price, as_names}
use Rattle.line.proofs.Stages.{Reached, Says, begun, onward, stopped}
use Rattle.line.proofs.Reports.{stops, time_small, read_value, word_bytes, price_signed}
use Rattle.line.proofs.report.read_fields.Goals as goal
use Rattle.line.proofs.report.read_fields.Goals.{After-new-reader, In_ok-kind, In_ok-id, In_ok-contract, In_ok-venue, In_ok-participant, In_ok-side, In_ok-action, In_ok-time, In_ok-quantity, In_ok-price, In_ok-names}

abbrev At : Bytes → ℕ → Reader → Type 0
At bs k r = Reached bs field_rows (report (fields bs)) r k (drop k field_rows)

at_kind : (c : goal.After-new-reader) → At c.args.line.now 0 c.new-reader.result
at_kind c = begun _ _ _ _ c.new-reader.ensures.place c.new-reader.ensures.line

past_kind : (c : goal.In_ok-kind) → At c.args.line.now 1 c.value.new.self × Says as_read kind_form 0 c.args.line.now c.in_ok-kind.kind
past_kind c =
    let p = c.in_ok-kind.ensures in
    onward as_read kind_form 0 (omega arith) (omega (arith, c.requires)) (at_kind (goal.at.In_ok-kind c).After-new-reader) p.told p.moved

past_id : (c : goal.In_ok-id) → At c.args.line.now 2 c.id.new.self × Says as_word (id_form 1 52) 1 c.args.line.now (seen c.in_ok-id.id)
past_id c =
    let p = c.in_ok-id.ensures in
    onward as_word (id_form 1 52) 1 (omega arith) (omega (arith, c.requires)) (past_kind (goal.at.In_ok-id c).In_ok-kind).0 p.told p.moved

past_contract : (c : goal.In_ok-contract) → At c.args.line.now 3 c.id-2.new.self × Says as_word (id_form 0 32) 2 c.args.line.now (seen c.in_ok-contract.contract)
past_contract c =
    let p = c.in_ok-contract.ensures in
    onward as_word (id_form 0 32) 2 (omega arith) (omega (arith, c.requires)) (past_id (goal.at.In_ok-contract c).In_ok-id).0 p.told p.moved

past_venue : (c : goal.In_ok-venue) → At c.args.line.now 4 c.venue.new.self × Says as_word venue_form 3 c.args.line.now (seen c.in_ok-venue.venue)
past_venue c =
    let p = c.in_ok-venue.ensures in
    onward as_word venue_form 3 (omega arith) (omega (arith, c.requires)) (past_contract (goal.at.In_ok-venue c).In_ok-contract).0 p.told p.moved

past_participant : (c : goal.In_ok-participant) → At c.args.line.now 5 c.code.new.self × Says as_word code_form 4 c.args.line.now (seen c.in_ok-participant.participant)
past_participant c =
    let p = c.in_ok-participant.ensures in
    onward as_word code_form 4 (omega arith) (omega (arith, c.requires)) (past_venue (goal.at.In_ok-participant c).In_ok-venue).0 p.told p.moved

past_side : (c : goal.In_ok-side) → At c.args.line.now 6 c.value-2.new.self × Says as_read side_form 5 c.args.line.now c.in_ok-side.side
past_side c =
    let p = c.in_ok-side.ensures in
    onward as_read side_form 5 (omega arith) (omega (arith, c.requires)) (past_participant (goal.at.In_ok-side c).In_ok-participant).0 p.told p.moved

past_action : (c : goal.In_ok-action) → At c.args.line.now 7 c.value-3.new.self × Says as_read action_form 6 c.args.line.now c.in_ok-action.action
past_action c =
    let p = c.in_ok-action.ensures in
    onward as_read action_form 6 (omega arith) (omega (arith, c.requires)) (past_side (goal.at.In_ok-action c).In_ok-side).0 p.told p.moved

past_time : (c : goal.In_ok-time) → At c.args.line.now 8 c.time.new.self × Says as_number time_form 7 c.args.line.now (seen c.in_ok-time.time)
past_time c =
    let p = c.in_ok-time.ensures in
    onward as_number time_form 7 (omega arith) (omega (arith, c.requires)) (past_action (goal.at.In_ok-time c).In_ok-action).0 p.told p.moved

past_quantity : (c : goal.In_ok-quantity) → At c.args.line.now 9 c.quantity.new.self × Says as_number quantity_form 8 c.args.line.now (seen c.in_ok-quantity.quantity)
past_quantity c =
    let p = c.in_ok-quantity.ensures in
    onward as_number quantity_form 8 (omega arith) (omega (arith, c.requires)) (past_time (goal.at.In_ok-quantity c).In_ok-time).0 p.told p.moved

past_price : (c : goal.In_ok-price) → At c.args.line.now 10 c.price.new.self × Says as_price price_form 9 c.args.line.now (seen c.in_ok-price.price)
past_price c =
    let p = c.in_ok-price.ensures in
    onward as_price price_form 9 (omega arith) (omega (arith, c.requires)) (past_quantity (goal.at.In_ok-price c).In_ok-quantity).0 p.told p.moved

past_names : (c : goal.In_ok-names) → At c.args.line.now 11 c.names.new.self × Says as_names names_form 10 c.args.line.now (seen c.in_ok-names.names)
past_names c =
    let p = c.in_ok-names.ensures in
    onward as_names names_form 10 (omega arith) (omega (arith, c.requires)) (past_price (goal.at.In_ok-names c).In_ok-price).0 p.told p.moved

pub returns-in_err-kind : goal.returns-in_err-kind
returns-in_err-kind c =
    stops 0 _ _ c.from_residual.ensures.1 (stopped as_read kind_form 0 (omega arith) (omega (arith, c.requires)) (at_kind (goal.at.returns-in_err-kind c).After-new-reader) c.in_err-kind.ensures.told)

pub returns-in_err-id : goal.returns-in_err-id
returns-in_err-id c =
    stops 1 _ _ c.from_residual-in_err-id.ensures.1 (stopped as_word (id_form 1 52) 1 (omega arith) (omega (arith, c.requires)) (past_kind (goal.at.returns-in_err-id c).In_ok-kind).0 c.in_err-id.ensures.told)

pub returns-in_err-contract : goal.returns-in_err-contract
returns-in_err-contract c =
    stops 2 _ _ c.from_residual-in_err-contract.ensures.1 (stopped as_word (id_form 0 32) 2 (omega arith) (omega (arith, c.requires)) (past_id (goal.at.returns-in_err-contract c).In_ok-id).0 c.in_err-contract.ensures.told)

pub returns-in_err-venue : goal.returns-in_err-venue
returns-in_err-venue c =
    stops 3 _ _ c.from_residual-in_err-venue.ensures.1 (stopped as_word venue_form 3 (omega arith) (omega (arith, c.requires)) (past_contract (goal.at.returns-in_err-venue c).In_ok-contract).0 c.in_err-venue.ensures.told)

pub returns-in_err-participant : goal.returns-in_err-participant
returns-in_err-participant c =
    stops 4 _ _ c.from_residual-in_err-participant.ensures.1 (stopped as_word code_form 4 (omega arith) (omega (arith, c.requires)) (past_venue (goal.at.returns-in_err-participant c).In_ok-venue).0 c.in_err-participant.ensures.told)

pub returns-in_err-side : goal.returns-in_err-side
returns-in_err-side c =
    stops 5 _ _ c.from_residual-in_err-side.ensures.1 (stopped as_read side_form 5 (omega arith) (omega (arith, c.requires)) (past_participant (goal.at.returns-in_err-side c).In_ok-participant).0 c.in_err-side.ensures.told)

pub returns-in_err-action : goal.returns-in_err-action
returns-in_err-action c =
    stops 6 _ _ c.from_residual-in_err-action.ensures.1 (stopped as_read action_form 6 (omega arith) (omega (arith, c.requires)) (past_side (goal.at.returns-in_err-action c).In_ok-side).0 c.in_err-action.ensures.told)

pub returns-in_err-time : goal.returns-in_err-time
returns-in_err-time c =
    stops 7 _ _ c.from_residual-in_err-time.ensures.1 (stopped as_number time_form 7 (omega arith) (omega (arith, c.requires)) (past_action (goal.at.returns-in_err-time c).In_ok-action).0 c.in_err-time.ensures.told)

pub returns-in_err-quantity : goal.returns-in_err-quantity
returns-in_err-quantity c =
    stops 8 _ _ c.from_residual-in_err-quantity.ensures.1 (stopped as_number quantity_form 8 (omega arith) (omega (arith, c.requires)) (past_time (goal.at.returns-in_err-quantity c).In_ok-time).0 c.in_err-quantity.ensures.told)

pub returns-in_err-price : goal.returns-in_err-price
returns-in_err-price c =
    stops 9 _ _ c.from_residual-in_err-price.ensures.1 (stopped as_price price_form 9 (omega arith) (omega (arith, c.requires)) (past_quantity (goal.at.returns-in_err-price c).In_ok-quantity).0 c.in_err-price.ensures.told)

pub returns-in_err-names : goal.returns-in_err-names
returns-in_err-names c =
    stops 10 _ _ c.from_residual-in_err-names.ensures.1 (stopped as_names names_form 10 (omega arith) (omega (arith, c.requires)) (past_price (goal.at.returns-in_err-names c).In_ok-price).0 c.in_err-names.ensures.told)

pub overflow_cast-result : goal.overflow_cast-result
overflow_cast-result c =
    let s = (past_time (goal.at.overflow_cast-result c).In_ok-time).1 in
    omega (arith, time_small (piece 8 (fields c.args.line.now)) _ s.1, c.number.ensures ∙ ap number_of s.2)

pub returns : goal.returns
returns c =
    let h = goal.at.returns c in
    let s-kind = (past_kind h.In_ok-kind).1 in
    let s-id = (past_id h.In_ok-id).1 in
    let s-contract = (past_contract h.In_ok-contract).1 in
    let s-venue = (past_venue h.In_ok-venue).1 in
    let s-participant = (past_participant h.In_ok-participant).1 in
    let s-side = (past_side h.In_ok-side).1 in
    let s-action = (past_action h.In_ok-action).1 in
    let s-time = (past_time h.In_ok-time).1 in
    let s-quantity = (past_quantity h.In_ok-quantity).1 in
    let s-price = (past_price h.In_ok-price).1 in
    let s-names = (past_names h.In_ok-names).1 in
    (λ i. Ok (record {
      kind = read_value Order s-kind.1 s-kind.2 i;
      id = read_value [] s-id.1 (c.bytes.ensures ∙ ap bytes_of s-id.2 ∙ word_bytes _ s-id.0) i;
      contract = read_value [] s-contract.1 (c.bytes-2.ensures ∙ ap bytes_of s-contract.2 ∙ word_bytes _ s-contract.0) i;
      venue = read_value [] s-venue.1 (c.bytes-3.ensures ∙ ap bytes_of s-venue.2 ∙ word_bytes _ s-venue.0) i;
      participant = read_value [] s-participant.1 (c.bytes-4.ensures ∙ ap bytes_of s-participant.2 ∙ word_bytes _ s-participant.0) i;
      side = read_value Buy s-side.1 s-side.2 i;
      action = read_value New s-action.1 s-action.2 i;
      time = read_value 0 s-time.1 (c.number.ensures ∙ ap number_of s-time.2) i;
      quantity = read_value 0 s-quantity.1 (c.number-2.ensures ∙ ap number_of s-quantity.2) i;
      price = read_value None s-price.1 (c.signed.ensures ∙ ap signed_of s-price.2 ∙ price_signed _ _ s-price.0) i;
      names = read_value [] s-names.1 (c.names-2.ensures ∙ ap names_of s-names.2) i;
    }))
    ∙ sym (past_names h.In_ok-names).0.is
