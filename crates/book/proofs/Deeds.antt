-- The life held for a key is what the accepted lines of the key tell.
use Rattle.std.proofs.Common.{◌≡◌, ℕ, Bool, true, false, cond, ◌⊎◌, List, [], ◌∷◌, ◌++◌, ℤ, Some, None, Option, sym, refl, ap, ◌∙◌, inl, inr, arith}
use Rattle.std.specs.List.{AllByRecursion}
use Rattle.std.specs.Option.{option_map}
use Rattle.text.specs.declared.words.Action.{Action}
use Rattle.text.specs.declared.words.Action.TheVariants.{New, Modify, Error, Cancel}
use Rattle.line.specs.Lines.{Reported}
use Rattle.life.specs.declared.life.State.TheVariants.{Cancelled}
use Rattle.life.specs.Parts.{KeyParts, LifeParts}
use Rattle.life.specs.Keys.{same_key}
use Rattle.life.specs.Lives.{Lives, look}
use Rattle.life.specs.Rules.{new_life, modified, cancelled}
use Rattle.life.proofs.ByKey.{cond_same}
use Rattle.life.proofs.KeyOrder.{parts_same, parts_eq}
use Rattle.life.proofs.Lives.{same_turned, look_erase, look_altered, look_apart}
use Rattle.book.specs.Book.{Book, empty_book, Call, Judge, told_by, key_of, verdict, acted, applied, changed, after, end}
use Rattle.book.specs.Laws.{a_line, subject, log, Deed, Did, deed, deeds, GoesOn, some_cancel, last_time, last_quantity, last_price, Tells, LifeLaw}

-- ---- One line after another

-- what an accepted line makes of the life of its key
abbrev made : Action → ℕ → ℕ → Option ℤ → Option LifeParts → Option LifeParts
made New t q p o = Some (new_life t q p)
made Modify t q p o = option_map (modified t q p) o
made Error t q p o = None
made Cancel t q p o = option_map (cancelled t) o

abbrev traced : Option LifeParts → List Deed → Option LifeParts
traced o [] = o
traced o (Did a t q p ∷ ds) = traced (made a t q p o) ds

acted_here : (a : Action) (k : KeyParts) (t q : ℕ) (p : Option ℤ) (ls : Lives) → look k (acted a k t q p ls) ≡ made a t q p (look k ls)
acted_here New k t q p ls = rw (parts_same k)
acted_here Modify k t q p ls = look_altered k _ ls
acted_here Error k t q p ls = look_erase k k ls ∙ rw (parts_same k)
acted_here Cancel k t q p ls = look_altered k _ ls

acted_apart : (a : Action) (j k : KeyParts) (t q : ℕ) (p : Option ℤ) (ls : Lives) → same_key j k ≡ false → look k (acted a j t q p ls) ≡ look k ls
acted_apart New j k t q p ls h = rw (same_turned j k h)
acted_apart Modify j k t q p ls h = look_apart j k _ ls h
acted_apart Error j k t q p ls h = look_erase k j ls ∙ rw (same_turned j k h)
acted_apart Cancel j k t q p ls h = look_apart j k _ ls h

-- what a line does to the life of each key
applied_made : (j k : KeyParts) (r : Reported) (ls : Lives) (ds : List Deed) → traced (look k (applied j r ls)) ds ≡ traced (look k ls) (deed k (a_line j r) None ds)
applied_made j k r ls ds = go (same_key j k) refl
  where
    go : (y : Bool) → same_key j k ≡ y → traced (look k (applied j r ls)) ds ≡ traced (look k ls) (cond y (Did r.action r.time r.quantity r.price ∷ ds) ds)
    go true h = ap (λ o. traced o ds) (rw (← parts_eq j k h) (acted_here r.action j r.time r.quantity r.price ls))
    go false h = ap (λ o. traced o ds) (acted_apart r.action j k r.time r.quantity r.price ls h)

-- a call leaves of each life what its line makes of it
abbrev Traces : Call → Book → Option (ℕ × ℕ) → Type 0
Traces c b v = (k : KeyParts) (ds : List Deed) → traced (look k (changed b c v).lives) ds ≡ traced (look k b.lives) (deed k (subject b.contracts c) v ds)

call_traces : (c : Call) (b : Book) (v : Option (ℕ × ℕ)) → Traces c b v
call_traces (Judge n bs) b None k ds = applied_made (key_of (told_by b.contracts bs)) k (told_by b.contracts bs).says b.lives ds
call_traces (Judge n bs) b (Some r) k ds = refl
call_traces _ b None k ds = refl
call_traces _ b (Some r) k ds = refl

-- a run leaves of each life what its lines make of it
run_traces : (cs : List Call) (b : Book) (k : KeyParts) → look k (end b cs).lives ≡ traced (look k b.lives) (deeds k (log b cs))
run_traces [] b k = refl
run_traces (c ∷ cs) b k = run_traces cs (after b c) k ∙ call_traces c b (verdict b c) k (deeds k (log (after b c) cs))

-- ---- What is traced, as a relation

-- what lines that go on make of a life
abbrev changed_by : LifeParts → List Deed → LifeParts
changed_by y ds = record {
  in_state = cond (some_cancel ds) Cancelled y.in_state;
  at_time = last_time y.at_time ds;
  with_quantity = last_quantity y.with_quantity ds;
  with_price = last_price y.with_price ds;
}

traced_changed : (ds : List Deed) (y : LifeParts) → AllByRecursion GoesOn ds → traced (Some y) ds ≡ Some (changed_by y ds)
traced_changed [] y h = refl
traced_changed (Did New t q p ∷ ds) y h = absurd h.0
traced_changed (Did Modify t q p ∷ ds) y h = traced_changed ds _ h.1
traced_changed (Did Error t q p ∷ ds) y h = absurd h.0
traced_changed (Did Cancel t q p ∷ ds) y h = traced_changed ds _ h.1 ∙ rw (cond_same (some_cancel ds) Cancelled)

traced_append : (xs ys : List Deed) (o : Option LifeParts) → traced o (xs ++ ys) ≡ traced (traced o xs) ys
traced_append [] ys o = refl
traced_append (Did a t q p ∷ xs) ys o = traced_append xs ys (made a t q p o)

-- what is told is traced
from_told : (ds : List Deed) (o : Option LifeParts) (life : LifeParts) → Tells ds life → traced o ds ≡ Some life
from_told ds o life s =
    rw s.parts
    (traced_append s.before (Did New s.new_time s.new_quantity s.new_price ∷ s.since) o
    ∙ traced_changed s.since (new_life s.new_time s.new_quantity s.new_price) s.goes_on
    ∙ ap Some (rw (← s.its_state, ← s.its_time, ← s.its_quantity, ← s.its_price)))

-- the lines went on from a life that was there
abbrev WentOn : Option LifeParts → List Deed → LifeParts → Type 0
WentOn o ds life = (y : LifeParts) × (o ≡ Some y) × AllByRecursion GoesOn ds × (life ≡ changed_by y ds)

new_told : (t q : ℕ) (p : Option ℤ) (ds : List Deed) (o : Option LifeParts) (life : LifeParts) → WentOn (made New t q p o) ds life → Tells (Did New t q p ∷ ds) life
new_told t q p ds o life w = record {
  before = [];
  new_time = t;
  new_quantity = q;
  new_price = p;
  since = ds;
  parts = refl;
  goes_on = w.2;
  its_state = grind (arith, w.1, w.3);
  its_time = grind (arith, w.1, w.3);
  its_quantity = grind (arith, w.1, w.3);
  its_price = grind (arith, w.1, w.3);
}

-- what is traced is told, or goes on from a life that was there
to_told : (ds : List Deed) (o : Option LifeParts) (life : LifeParts) → traced o ds ≡ Some life → Tells ds life ⊎ WentOn o ds life
to_told [] o life e = inr (life, e, tt, refl)
to_told (Did a t q p ∷ ds) o life e = go a o (to_told ds (made a t q p o) life e)
  where
    go : (a : Action) (o : Option LifeParts) → Tells ds life ⊎ WentOn (made a t q p o) ds life → Tells (Did a t q p ∷ ds) life ⊎ WentOn o (Did a t q p ∷ ds) life
    go a o (inl s) = inl (record {
      before = Did a t q p ∷ s.before;
      new_time = s.new_time;
      new_quantity = s.new_quantity;
      new_price = s.new_price;
      since = s.since;
      parts = ap (λ zs. Did a t q p ∷ zs) s.parts;
      goes_on = s.goes_on;
      its_state = s.its_state;
      its_time = s.its_time;
      its_quantity = s.its_quantity;
      its_price = s.its_price;
    })
    go New o (inr w) = inl (new_told t q p ds o life w)
    go Modify (Some z) (inr w) = inr (z, refl, (tt, w.2), cc (w.1, w.3))
    go Modify None (inr w) = absurd (grind (arith, w.1))
    go Cancel (Some z) (inr w) = inr (z, refl, (tt, w.2), cc (w.1, w.3, cond_same (some_cancel ds) Cancelled))
    go Cancel None (inr w) = absurd (grind (arith, w.1))
    go Error o (inr w) = absurd (grind (arith, w.1))

pub life_law : LifeLaw
life_law capacity calls k life = (
  λ e. to (to_told (deeds k (log (empty_book capacity) calls)) None life (sym (run_traces calls (empty_book capacity) k) ∙ e)),
  λ s. run_traces calls (empty_book capacity) k ∙ from_told _ None life s,
)
  where
    to : Tells (deeds k (log (empty_book capacity) calls)) life ⊎ WentOn None (deeds k (log (empty_book capacity) calls)) life → Tells (deeds k (log (empty_book capacity) calls)) life
    to (inl s) = s
    to (inr w) = absurd (grind (arith, w.1))
