-- Writing to the front of a buffer, and then to the front of its rest.
use Rattle.std.proofs.Common.{◌≡◌, ℕ, ◌+◌, ◌-◌, ◌<◌, ◌≤◌, Bool, true, false, cond, List, [], ◌++◌, length, take, drop, Ok, Err, sym, refl, ap, ◌∙◌, append_assoc, append-nil, arith, length-drop, le-leb, leb-false, leb-true}
use borrow.Author.Tests.{lt-leb}
use borrow.Rule.Slice.PartMut.{put_mid}
use Rattle.std.proofs.lemmas.List.{take_at, drop_at, take_rest, drop_all, drop-drop, take-append-drop}
use Rattle.output.specs.declared.faults.OutputFault.{OutputFault}
use Rattle.output.specs.declared.faults.OutputFault.TheVariants.{TooShort}
use Rattle.output.specs.Buffers.{Wrote, fits}
use Rattle.output.specs.Drafts.{Put}

-- a text at the front of a buffer that has room for it
pub whole : {buffer text after : List ℕ} {n : ℕ} → n ≡ length text → length text ≤ length buffer → after ≡ text ++ drop n buffer → Wrote buffer text (Ok n) after
whole {buffer} {text} {after} {n} long room holds =
    let roomy : fits buffer text ≡ true = le-leb (length text) (length buffer) room in
    record { answers = rw roomy (ap Ok long); holds = rw roomy (holds ∙ ap (λ k. text ++ drop k buffer) long) }

-- the same of a text that was put there
pub fills : {buffer text after : List ℕ} {end : ℕ} → Put buffer 0 text end after → length text ≤ length buffer → Wrote buffer text (Ok end) after
fills {buffer} {text} {after} {end} p room =
    whole (omega (arith, p.ends)) room (sym (take-append-drop end after) ∙ ap (λ l. l ++ drop end after) p.front ∙ ap (λ l. text ++ l) p.rest)

-- a buffer too short for a text
pub leaves : {buffer text : List ℕ} → length buffer < length text → Wrote buffer text (Err TooShort) buffer
leaves {buffer} {text} short =
    let tight : fits buffer text ≡ false = lt-leb (length text) (length buffer) short in
    record { answers = rw tight; holds = rw tight }

-- nothing to write
pub nothing : (buffer : List ℕ) → Wrote buffer [] (Ok 0) buffer
nothing buffer = let roomy : fits buffer [] ≡ true = le-leb 0 (length buffer) (omega arith) in record { answers = rw roomy; holds = rw roomy }

-- ---- What a caller learns from the answer

pub record Done (buffer text after : List ℕ) (n : ℕ) : Type 0 where
  pub long : n ≡ length text
  pub room : n ≤ length buffer
  pub holds : after ≡ text ++ drop n buffer

done_by : (buffer text after : List ℕ) (n : ℕ) (b : Bool) → fits buffer text ≡ b → Ok n ≡ cond b (Ok (length text)) (Err TooShort) → after ≡ cond b (text ++ drop (length text) buffer) buffer → Done buffer text after n
done_by buffer text after n true roomy told holds =
    let long : n ≡ length text = cc in
    record { long = long; room = omega (arith, leb-true (length text) (length buffer) roomy); holds = holds ∙ ap (λ k. text ++ drop k buffer) (sym long) }
done_by buffer text after n false tight told holds = let no : ◌≡◌ {A = ℕ} 0 1 = cc in absurd (omega arith)

pub done : {buffer text after : List ℕ} {n : ℕ} → Wrote buffer text (Ok n) after → Done buffer text after n
done {buffer} {text} {after} {n} w = done_by buffer text after n (fits buffer text) refl w.answers w.holds

short_by : (buffer text : List ℕ) (e : OutputFault) (b : Bool) → fits buffer text ≡ b → Err e ≡ cond b (Ok (length text)) (Err TooShort) → length buffer < length text
short_by buffer text e true roomy told = let no : ◌≡◌ {A = ℕ} 0 1 = cc in absurd (omega arith)
short_by buffer text e false tight told = leb-false (length text) (length buffer) tight

pub short : {buffer text after : List ℕ} {e : OutputFault} → Wrote buffer text (Err e) after → length buffer < length text
short {buffer} {text} {after} {e} w = short_by buffer text e (fits buffer text) refl w.answers

-- ---- A buffer whose front was written, and then the front of its rest

module _ (was one two : List ℕ) (n m : ℕ) (front after : List ℕ) where
  pub rest_written : n ≡ length one → front ≡ one ++ drop n was → after ≡ two ++ drop m (take (length front - n) (drop n front)) → put_mid n (length front - n) front after ≡ (one ++ two) ++ drop (n + m) was
  rest_written long f a =
      let begins : take n front ≡ one = ap (take n) f ∙ take_at one (drop n was) n (sym long) in
      let rests : drop n front ≡ drop n was = ap (drop n) f ∙ drop_at one (drop n was) n (sym long) in
      let part : take (length front - n) (drop n front) ≡ drop n was = take_rest front n ∙ rests in
      let second : after ≡ two ++ drop (n + m) was = a ∙ ap (λ l. two ++ drop m l) part ∙ ap (λ l. two ++ l) (drop-drop m n was) in
      let none : drop (length front - n) (drop n front) ≡ [] = drop_all (length front - n) (drop n front) (simp length-drop (omega arith)) in
      (λ i. begins i ++ (second i ++ none i)) ∙ ap (λ l. one ++ l) (append-nil (two ++ drop (n + m) was)) ∙ sym (append_assoc one two (drop (n + m) was))
