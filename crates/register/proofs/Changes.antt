-- What a store's answers tell of the lives that it holds, of its room and of their total.
use Rattle.std.proofs.Common.{◌≡◌, ℕ, Bool, true, not, ◌||◌, ltb, leb, List, length, is_some, Some, None, Option, sym, refl, ap, ◌∙◌, subst, arith}
use lib.ListN.{length-map}
use Rattle.std.proofs.lemmas.Bool.{leb-true, leb-false, ltb-true, ltb-false}
use Rattle.life.specs.declared.key.Key.{Key}
use Rattle.life.specs.declared.life.Life.{Life}
use Rattle.life.specs.Acts.{life_in}
use Rattle.life.specs.Lives.{Lives, plain_pair, plain, look, Unique, Same, altered}
use Rattle.life.specs.Pairs as pairs
use Rattle.life.specs.Parts.{KeyParts, LifeParts, key_parts, life_parts}
use Rattle.life.proofs.Plain.{plain_look, plain_unique, plain_altered}
use Rattle.measure.specs.Group.{Group}
use Rattle.measure.specs.Totals.{total_of}
use Rattle.measure.proofs.Sums.{total_same}

-- ---- Look-ups

-- what a store finds is what its lives have
pub found_is : (k : Key) (xs : List (Key × Life)) (o : Option Life) → o ≡ pairs.look k xs → look (key_parts k) (plain xs) ≡ life_in o
found_is k xs o e = plain_look k xs ∙ ap life_in (sym e)

-- ---- Room

stands : (o : Option Life) → is_some (life_in o) ≡ is_some o
stands None = refl
stands (Some l) = refl

-- whether a key is held, by the lives
held_is : (k : Key) (xs : List (Key × Life)) → is_some (pairs.look k xs) ≡ is_some (look (key_parts k) (plain xs))
held_is k xs = sym (stands (pairs.look k xs)) ∙ ap is_some (sym (plain_look k xs))

not_less : (n m : ℕ) → leb m n ≡ not (ltb n m)
not_less n m = grind (arith, leb-true m n, leb-false m n, ltb-true n m, ltb-false n m)

-- a new key has a place unless as many are held as there can be
pub full_unless : (room : ℕ) (k : Key) (xs : List (Key × Life)) (fits : Bool) → look (key_parts k) (plain xs) ≡ None → fits ≡ pairs.admits room k xs → leb room (length (plain xs)) ≡ not fits
full_unless room k xs fits new e =
    ap (leb room) (length-map xs plain_pair)
    ∙ not_less (length xs) room
    ∙ ap not (sym (e ∙ ap (λ b. b || ltb (length xs) room) (held_is k xs ∙ ap is_some new)))

-- a held key always has its place
pub held_fits : (room : ℕ) (k : Key) (l : LifeParts) (xs : List (Key × Life)) (fits : Bool) → look (key_parts k) (plain xs) ≡ Some l → fits ≡ pairs.admits room k xs → fits ≡ true
held_fits room k l xs fits found e = e ∙ ap (λ b. b || ltb (length xs) room) (held_is k xs ∙ ap is_some found)

-- ---- The lives after a put

-- at a held key the life is altered
pub put_alters : (room : ℕ) (key : Key) (old : LifeParts) (new : Life) (xs xs' : List (Key × Life)) (fits : Bool) → look (key_parts key) (plain xs) ≡ Some old →
    fits ≡ pairs.admits room key xs → pairs.Same xs' (pairs.added fits key new xs) → (f : LifeParts → LifeParts) → f old ≡ life_parts new → Same (plain xs') (altered (key_parts key) f (plain xs))
put_alters room key old new xs xs' fits found e put f is =
    let at_all : fits ≡ true = held_fits room key old xs fits found e in
    plain_altered key xs xs' (plain xs) (λ j. refl) old f new found is (subst (λ b. pairs.Same xs' (pairs.added b key new xs)) at_all put)

-- ---- Totals

-- a total of lives is that of the store which holds them
pub total_held : {V : Type 0} {nil : V} {joined : V → V → V} {inverse : V → V} (G : Group nil joined inverse) (weight : KeyParts → LifeParts → V)
    (xs : List (Key × Life)) (ls : Lives) (t : V) → pairs.Unique xs → Unique ls → Same (plain xs) ls → t ≡ total_of nil joined weight ls → t ≡ total_of nil joined weight (plain xs)
total_held G weight xs ls t u w s e = e ∙ sym (total_same G weight (plain xs) ls (plain_unique xs u) w s)
