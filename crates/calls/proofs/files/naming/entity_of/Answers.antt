use Rattle.std.proofs.Common.{◌≡◌, ℕ, ◌&&◌, leb, true, [], length, Some, None, MatchResult, Option, ◌∙◌, arith}
use Rattle.std.specs.Option.{ok_or}
use Rattle.std.proofs.lemmas.Bool.Decides.{nat_tests}
use Rattle.text.specs.declared.bounded.Text.{Text}
use Rattle.text.specs.Bytes.{Bytes, value, provided}
use Rattle.text.specs.Rows.{first_fit}
use Rattle.text.specs.Texts.{text_of, text_in}
use Rattle.filing.specs.declared.names.NameFault.{NameFault}
use Rattle.filing.specs.Faults.{name_number}
use Rattle.filing.specs.Names.{name_form, naming_rows}
use Rattle.calls.proofs.NameCodes.{Read, is_read}
use Rattle.calls.proofs.files.naming.entity_of.Goals as goal

-- a code that was read is a bounded text
held : (bs c : Bytes) (o : Option (Text 12)) (e : NameFault) → Read bs c → text_in o ≡ provided (leb (length c) 12 && leb (length c) 255) c
    → MatchResult (ok_or o e) (λ entity. (first_fit naming_rows bs ≡ None) × (text_of entity ≡ value [] (name_form bs))) (λ fault. first_fit naming_rows bs ≡ Some (name_number fault, 0))
held bs c None e read told = let twelve = read.twelve_bytes in absurd (let z : ◌≡◌ {A = ℕ} 0 1 = grind (arith, nat_tests) in omega arith)
held bs c (Some text) e read told =
    let twelve = read.twelve_bytes in
    let short : leb (length c) 12 && leb (length c) 255 ≡ true = grind (arith, nat_tests) in
    let same : text_of text ≡ c = cc in
    (read.none_fits, same ∙ read.is_code)

pub returns : goal.returns
returns c = rw c.ok_or.ensures.value (held c.args.name.now _ c.new.result _ (is_read c.args.name.now _ _ c.in_ok-code.ensures.told) c.new.ensures)
