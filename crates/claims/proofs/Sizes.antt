-- A line that was read has the sizes that a key and a life want.
use Rattle.std.proofs.Common.{◌≡◌, ℕ, ◌<◌, ◌≤◌, Bool, true, false, not, ◌&&◌, eqb, leb, [], length, get_or, take, drop, is_some, Some, None, Option, sym, refl, ap, ◌∙◌, arith}
use Rattle.std.specs.Char.{is_ascii_uppercase}
use Rattle.std.proofs.lemmas.Bool.{true≢false, leb-true, eqb-true, le-leb, lt-ltb, eq-eqb, and_parts, and_from}
use Rattle.text.specs.Bytes.{Bytes, between, id_byte, capital_or_digit, every, piece, provided, has_form, value}
use Rattle.text.specs.Forms.{id_form, venue_form, code_form}
use Rattle.text.specs.Rows.{first_fit, fields}
use Rattle.line.specs.Lines.{Reported, report, line_rows}
use Rattle.life.specs.Acts.{life_from}
use Rattle.life.specs.Keys.{parts_from}
use Rattle.life.specs.Parts.{KeyParts, LifeParts}
use Rattle.life.specs.Rules.{new_life}
use Rattle.book.proofs.Tables.{none_fits}
use Rattle.book.proofs.Tidy.{quantity_within}

-- ---- What a line says, once it is read

pub record Sizes (r : Reported) : Type 0 where
  pub of_id : length r.id ≤ 52
  pub of_venue : length r.venue ≡ 4
  pub of_participant : length r.participant ≡ 12
  pub of_quantity : r.quantity ≤ 1_000_000_000_000

-- a text that has its form says itself
formed : (a b : Bool) (t : Bytes) → not (has_form (provided (a && b) t)) ≡ false → (a ≡ true) × (value [] (provided (a && b) t) ≡ t)
formed true true t e = (refl, refl)
formed true false t e = absurd (true≢false e)
formed false b t e = absurd (true≢false e)

id_size : (t : Bytes) → not (has_form (id_form 1 52 t)) ≡ false → length (value [] (id_form 1 52 t)) ≤ 52
id_size t e =
    let p = formed (between 1 52 (length t)) (every id_byte t) t e in
    omega (arith, leb-true _ _ (and_parts (leb 1 (length t)) (leb (length t) 52) p.0).1, ap length p.1)

venue_size : (t : Bytes) → not (has_form (venue_form t)) ≡ false → length (value [] (venue_form t)) ≡ 4
venue_size t e =
    let p = formed (eqb (length t) 4) (every capital_or_digit t) t e in
    ap length p.1 ∙ eqb-true _ _ p.0

code_size : (t : Bytes) → not (has_form (code_form t)) ≡ false → length (value [] (code_form t)) ≡ 12
unfolding code_form
code_size t e =
    let p = formed (eqb (length t) 12) (every capital_or_digit (take 9 t) && (eqb (get_or t 9 0) 46 && every is_ascii_uppercase (drop 10 t))) t e in
    ap length p.1 ∙ eqb-true _ _ p.0

pub sizes : (bs : Bytes) → first_fit line_rows bs ≡ None → Sizes (report (fields bs))
sizes bs e =
    let h = none_fits line_rows bs e in
    record {
      of_id = id_size (piece 2 (fields bs)) h.1.1.1.0;
      of_venue = venue_size (piece 4 (fields bs)) h.1.1.1.1.1.0;
      of_participant = code_size (piece 5 (fields bs)) h.1.1.1.1.1.1.0;
      of_quantity = quantity_within (piece 9 (fields bs));
    }

-- ---- The key and the life that are made of it

abbrev pub key_with : ℕ → Reported → KeyParts
key_with n r = record {
  of_kind = r.kind;
  of_id = r.id;
  of_contract = n;
  of_venue = r.venue;
  of_participant = r.participant;
  of_side = r.side;
}

abbrev pub life_with : Reported → LifeParts
life_with r = new_life r.time r.quantity r.price

pub key_stands : (r : Reported) (n : ℕ) → Sizes r → n < 64 → parts_from r.kind r.id n r.venue r.participant r.side ≡ Some (key_with n r)
key_stands r n s l =
    ap (λ t. provided t (key_with n r))
    (and_from _ _ (le-leb _ _ s.of_id) (and_from _ _ (lt-ltb _ _ l) (and_from _ _ (eq-eqb _ _ s.of_venue) (eq-eqb _ _ s.of_participant))))

pub life_stands : (r : Reported) → Sizes r → life_from r.time r.quantity r.price ≡ Some (life_with r)
life_stands r s = ap (λ t. provided t (life_with r)) (le-leb _ _ s.of_quantity)

-- ---- Taking them out of their options, whose parts `f` shows

pub some_made : {X P : Type 0} (f : Option X → Option P) → f None ≡ None → (o : Option X) (p : P) → f o ≡ Some p → is_some o ≡ true
some_made f z None p e = absurd (let n : ◌≡◌ {A = ℕ} 0 1 = cc in omega arith)
some_made f z (Some x) p e = refl

pub made_is : {X P : Type 0} (f : Option X → Option P) (g : X → P) → ((x : X) → f (Some x) ≡ Some (g x)) → (o : Option X) (x : X) (p : P) → o ≡ Some x → f o ≡ Some p → g x ≡ p
made_is f g h o x p e s = let q : Some (g x) ≡ Some p = sym (h x) ∙ ap f (sym e) ∙ s in cc
