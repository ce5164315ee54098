-- A reader comes to a field when the rows of the fields before it do not fit.
use Rattle.std.proofs.Common.{◌≡◌, ℕ, suc, ◌+◌, ◌<◌, true, false, cond, not, List, ◌∷◌, length, drop, Some, None, Ok, Err, Option, Result, sym, refl, ap, ◌∙◌, arith}
use Rattle.text.specs.Bytes.{Bytes, piece, has_form}
use Rattle.text.specs.Rows.{Row, row, first_fit, fields, Refused, refusal, settled, settled_by}
use Rattle.line.specs.declared.faults.ReadFault.{ReadFault}
use Rattle.line.specs.declared.faults.ReadFault.TheVariants.{Form}
use Rattle.line.specs.declared.reader.Reader.{Reader}
use Rattle.line.specs.Reads.{front, pace, next_field, formed, read, Moved}
use Rattle.line.proofs.Fields.{offset, text, offset_zero, offset_next, texts, starts}

-- ---- One row

module _ {V : Type 0} (rows : List (Row Bytes)) (bs : Bytes) (v : V) (r : Row Bytes) where
  pub row_passes : r.fits bs ≡ false → settled (r ∷ rows) bs v ≡ settled rows bs v
  row_passes e = ap (λ t. settled_by bs v (cond t (Some (r.number, r.for_field)) (first_fit rows bs))) e

  pub row_stops : r.fits bs ≡ true → settled (r ∷ rows) bs v ≡ Err (refusal bs (r.number, r.for_field))
  row_stops e = ap (λ t. settled_by bs v (cond t (Some (r.number, r.for_field)) (first_fit rows bs))) e

-- the row of a field whose number is n
abbrev pub form_row : {A : Type 0} → ℕ → ℕ → (Bytes → Option A) → Row Bytes
form_row n f form = row n f (λ bs. not (has_form (form (piece f (fields bs)))))

-- ---- One reading

-- what a reading that went well says of the form, and one that failed
said_some : {A X : Type 0} (part : A → X) (o : Option A) (f at : ℕ) (x : X) → Ok x ≡ formed part o f at → (y : A) × (o ≡ Some y) × (x ≡ part y)
said_some {A} {X} part None f at x e = absurd (let z : ◌≡◌ {A = ℕ} 0 1 = cc in omega arith)
said_some part (Some y) f at x e = (y, refl, cc)

said_none : {A X : Type 0} (part : A → X) (o : Option A) (f at : ℕ) (x : ReadFault) → Err x ≡ formed part o f at → (o ≡ None) × (x ≡ Form f at)
said_none part None f at x e = (refl, cc)
said_none part (Some y) f at x e = absurd (let z : ◌≡◌ {A = ℕ} 0 1 = cc in omega arith)

-- the reader has come to field k of bs, counted from 0, and these are the rows still to be tried
pub record Reached {V : Type 0} (bs : Bytes) (all : List (Row Bytes)) (v : V) (r : Reader) (k : ℕ) (rows : List (Row Bytes)) : Type 0 where
  pub there : r.place.at ≡ offset k bs
  pub count : r.place.field ≡ k
  pub whole : r.line.now ≡ bs
  pub is : settled all bs v ≡ settled rows bs v

pub begun : {V : Type 0} (bs : Bytes) (all : List (Row Bytes)) (v : V) (r : Reader) → r.place ≡ record { at = 0; field = 0 } → r.line.now ≡ bs → Reached bs all v r 0 all
begun bs all v r e l = record { there = ap (λ q. q.at) e ∙ sym (offset_zero bs); count = ap (λ q. q.field) e; whole = l; is = refl }

-- field k of bs has the form, and this is what was handed out of its value
abbrev pub Says : {A X : Type 0} → (Bytes → ℕ → A → X) → (Bytes → Option A) → ℕ → Bytes → X → Type 0
Says {A} hand_out form k bs x = (y : A) × (form (piece (suc k) (fields bs)) ≡ Some y) × (x ≡ hand_out (text k bs) (offset k bs) y)

next_is : (f k : ℕ) → f ≡ k → k < 255 → next_field f ≡ suc k
next_is f k e l = omega arith

module _ {A X V : Type 0} (hand_out : Bytes → ℕ → A → X) (form : Bytes → Option A) (k : ℕ) {bs : Bytes} {all : List (Row Bytes)} {v : V} {n : ℕ} {rows : List (Row Bytes)} {was : Reader}
    (few : k < 255) (short : k < length (fields bs)) (h : Reached bs all v was k (form_row n (suc k) form ∷ rows)) where
  here : {r : Result X ReadFault} → r ≡ read hand_out form was.place was.line.now → r ≡ formed (hand_out (text k bs) (offset k bs)) (form (text k bs)) (suc k) (offset k bs)
  here e =
      e ∙ (λ i. formed (hand_out (front (drop (h.there i) (h.whole i))) (h.there i)) (form (front (drop (h.there i) (h.whole i)))) (next_is was.place.field k h.count few i) (h.there i))

  -- the reader goes on with the next row, and has the value that the form gives
  pub onward : {Y : Type 0} {x : X} {is : Reader} {y : Y} → Ok x ≡ read hand_out form was.place was.line.now → Moved was is (Ok y) → Reached bs all v is (suc k) rows × Says hand_out form k bs x
  onward {x = x} e m =
      let s = said_some (hand_out (text k bs) (offset k bs)) (form (text k bs)) (suc k) (offset k bs) x (here e) in
      let t = ap form (sym (texts k bs short)) ∙ s.1 in (
        record {
          there = ap (λ t. t.at) m.place ∙ (λ i. h.there i + pace (drop (h.there i) (h.whole i))) ∙ sym (offset_next k bs);
          count = ap (λ t. t.field) m.place ∙ next_is was.place.field k h.count few;
          whole = m.line ∙ h.whole;
          is = h.is ∙ row_passes rows bs v (form_row n (suc k) form) (ap (λ o. not (has_form o)) t);
        },
        (s.0, t, s.2),
      )

  -- the first row that fits is this one
  pub stopped : {x : ReadFault} → Err x ≡ read hand_out form was.place was.line.now → (x ≡ Form (suc k) (offset k bs)) × (settled all bs v ≡ Err (Refused n (suc k) (offset k bs)))
  stopped {x} e =
      let s = said_none (hand_out (text k bs) (offset k bs)) (form (text k bs)) (suc k) (offset k bs) x (here e) in
      let t = ap form (sym (texts k bs short)) ∙ s.0 in
      (s.1, h.is ∙ row_stops rows bs v (form_row n (suc k) form) (ap (λ o. not (has_form o)) t) ∙ (λ i. Err (Refused n (suc k) (sym (starts k bs short) i))))
