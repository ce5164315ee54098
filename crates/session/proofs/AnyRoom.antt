-- The calls of an input do not depend on how many lives there is room for: they go by the names and
-- stages of files and by the entities alone.
use Rattle.std.proofs.Common.{◌≡◌, ℕ, zero, suc, Bool, true, false, cond, List, [], ◌∷◌, ◌++◌, length}
use Rattle.std.proofs.Common.{set, is_some, Some, None, Option, refl, ap, ◌∙◌, subst}
use Rattle.std.specs.List.{AllZip}
use Rattle.std.proofs.SliceLists.{AllZip-push}
use Rattle.text.specs.Bytes.{Bytes}
use Rattle.text.specs.Rows.{first_fit}
use Rattle.filing.specs.Names.{naming_rows}
use Rattle.filing.specs.Files.{File, Stage, Identified, Ended, at_stage, taking_rows, one_accepted, one_refused}
use Rattle.book.specs.Book.{Book, empty_book, no_file, file_of, put_file, refused_in, verdict}
use Rattle.book.specs.Book.{changed, after, Call, AddEntity, AddContract, NameFile, Identify}
use Rattle.book.specs.Book.{Withdraw, Close, Judge, LookUp, Total}
use Rattle.session.specs.Session.{InHand, NoFile, OnlyNamed, Identified as InHandIdentified}
use Rattle.session.specs.Session.{call_of_line, in_hand_after_call, in_hand_after, book_with}
use Rattle.session.specs.Session.{listed, lines_of, calls_of_lines, calls_of_input}

-- ---- Files that stand alike

-- at the same stage, and of the same entity, whatever was judged in them
record LikeFile (f g : File) : Type 0 where
  same_stage : f.stage ≡ g.stage
  same_entity : f.entity ≡ g.entity

same_file : (f : File) → LikeFile f f
same_file f = record { same_stage = refl; same_entity = refl }

abbrev Like : List File → List File → Type 0
Like fs gs = AllZip LikeFile fs gs

like_at : (fs gs : List File) (n : ℕ) → Like fs gs → LikeFile (file_of fs n) (file_of gs n)
like_at [] [] n h = same_file no_file
like_at [] (g ∷ gs) n h = absurd h
like_at (f ∷ fs) [] n h = absurd h
like_at (f ∷ fs) (g ∷ gs) zero h = h.0
like_at (f ∷ fs) (g ∷ gs) (suc n) h = like_at fs gs n h.1

like_set : (fs gs : List File) (n : ℕ) (f g : File) → LikeFile f g → Like fs gs →
    Like (set fs n f) (set gs n g)
like_set [] [] n f g e h = tt
like_set [] (y ∷ gs) n f g e h = absurd h
like_set (x ∷ fs) [] n f g e h = absurd h
like_set (x ∷ fs) (y ∷ gs) zero f g e h = (e, h.1)
like_set (x ∷ fs) (y ∷ gs) (suc n) f g e h = (h.0, like_set fs gs n f g e h.1)

as_many : (fs gs : List File) → Like fs gs → length fs ≡ length gs
as_many [] [] h = refl
as_many [] (g ∷ gs) h = absurd h
as_many (f ∷ fs) [] h = absurd h
as_many (f ∷ fs) (g ∷ gs) h = ap suc (as_many fs gs h.1)

-- a refused line leaves a file where it stands
refused_like : (f g : File) → LikeFile f g → LikeFile (refused_in f) g
refused_like f g h = go (is_some (first_fit taking_rows f))
  where
    go : (t : Bool) → LikeFile (cond t f (one_refused f)) g
    go true = h
    go false = record { same_stage = h.same_stage; same_entity = h.same_entity }

like_refused : (f g : File) → LikeFile f g → LikeFile f (refused_in g)
like_refused f g h = go (is_some (first_fit taking_rows g))
  where
    go : (t : Bool) → LikeFile f (cond t g (one_refused g))
    go true = h
    go false = record { same_stage = h.same_stage; same_entity = h.same_entity }

-- ---- Books whose files stand alike, with the same entities

record Beside (b d : Book) : Type 0 where
  same_entities : b.entities ≡ d.entities
  like_files : Like b.files d.files

put_beside : (b d : Book) (n : ℕ) (f g : File) → Beside b d → LikeFile f g →
    Beside (put_file b n f) (put_file d n g)
put_beside b d n f g s h = record {
  same_entities = s.same_entities;
  like_files = like_set b.files d.files n f g h s.like_files;
}

staged_beside : (to : Stage) (b d : Book) (n : ℕ) → Beside b d →
    Beside (put_file b n (at_stage to (file_of b.files n))) (put_file d n (at_stage to (file_of d.files n)))
staged_beside to b d n s =
    put_beside b d n _ _ s
    (record { same_stage = refl; same_entity = (like_at b.files d.files n s.like_files).same_entity })

-- what becomes of a file by a line that is judged in it, whatever it is answered
abbrev judged_file : File → Option (ℕ × ℕ) → File
judged_file f None = one_accepted f
judged_file f (Some r) = refused_in f

judged_like : (f g : File) (v w : Option (ℕ × ℕ)) → LikeFile f g →
    LikeFile (judged_file f v) (judged_file g w)
judged_like f g None None h =
    record { same_stage = h.same_stage; same_entity = h.same_entity }
judged_like f g None (Some r) h =
    like_refused (one_accepted f) g
    (record { same_stage = h.same_stage; same_entity = h.same_entity })
judged_like f g (Some r) None h =
    refused_like f (one_accepted g)
    (record { same_stage = h.same_stage; same_entity = h.same_entity })
judged_like f g (Some r) (Some q) h = refused_like f (refused_in g) (like_refused f g h)

judged_beside : (n : ℕ) (bs : Bytes) (b d : Book) (v w : Option (ℕ × ℕ)) → Beside b d →
    Beside (changed b (Judge n bs) v) (changed d (Judge n bs) w)
judged_beside n bs b d v w s = go v w (λ x y. like_set b.files d.files n _ _ (judged_like _ _ x y like) s.like_files)
  where
    like : LikeFile (file_of b.files n) (file_of d.files n)
    like = like_at b.files d.files n s.like_files

    go : (v w : Option (ℕ × ℕ)) →
        ((x y : Option (ℕ × ℕ)) → Like (set b.files n (judged_file (file_of b.files n) x))
        (set d.files n (judged_file (file_of d.files n) y))) →
        Beside (changed b (Judge n bs) v) (changed d (Judge n bs) w)
    go None None h = record { same_entities = s.same_entities; like_files = h None None }
    go None (Some r) h = record { same_entities = s.same_entities; like_files = h None (Some r) }
    go (Some r) None h = record { same_entities = s.same_entities; like_files = h (Some r) None }
    go (Some r) (Some q) h =
        record { same_entities = s.same_entities; like_files = h (Some r) (Some q) }

identify_same : (n : ℕ) (bs : Bytes) (b d : Book) → Beside b d →
    verdict b (Identify n bs) ≡ verdict d (Identify n bs)
identify_same n bs b d s =
    let like = like_at b.files d.files n s.like_files in
    rw (like.same_stage, like.same_entity, s.same_entities)

-- a call that both books answer alike
same_answered : (c : Call) (b d : Book) → verdict b c ≡ verdict d c →
    ((v : Option (ℕ × ℕ)) → Beside (changed b c v) (changed d c v)) → Beside (after b c) (after d c)
same_answered c b d e h = subst (λ v. Beside (after b c) (changed d c v)) e (h (verdict b c))

-- a call that leaves the entities and the files, whatever it is answered
left_alone : (c : Call) (b d : Book) → ((v w : Option (ℕ × ℕ)) → Beside (changed b c v) (changed d c w)) →
    Beside (after b c) (after d c)
left_alone c b d h = h (verdict b c) (verdict d c)

call_beside : (c : Call) (b d : Book) → Beside b d → Beside (after b c) (after d c)
call_beside (AddEntity bs) b d s =
    same_answered (AddEntity bs) b d (rw s.same_entities)
    (λ v. elim v as (λ v. Beside (changed b (AddEntity bs) v) (changed d (AddEntity bs) v)) [
      | None ↦ record { same_entities = ap (λ es. es ++ bs ∷ []) s.same_entities; like_files = s.like_files }
      | Some r ↦ s
    ])
call_beside (AddContract bs) b d s = left_alone (AddContract bs) b d go
  where
    go : (v w : Option (ℕ × ℕ)) → Beside (changed b (AddContract bs) v) (changed d (AddContract bs) w)
    go None None = record { same_entities = s.same_entities; like_files = s.like_files }
    go None (Some r) = record { same_entities = s.same_entities; like_files = s.like_files }
    go (Some r) None = record { same_entities = s.same_entities; like_files = s.like_files }
    go (Some r) (Some q) = s
call_beside (NameFile bs) b d s =
    same_answered (NameFile bs) b d refl
    (λ v. elim v as (λ v. Beside (changed b (NameFile bs) v) (changed d (NameFile bs) v)) [
      | None ↦ record { same_entities = s.same_entities; like_files = AllZip-push LikeFile b.files d.files _ _ s.like_files (same_file _) }
      | Some r ↦ s
    ])
call_beside (Identify n bs) b d s =
    same_answered (Identify n bs) b d (identify_same n bs b d s)
    (λ v. elim v as (λ v. Beside (changed b (Identify n bs) v) (changed d (Identify n bs) v)) [
      | None ↦ staged_beside Identified b d n s
      | Some r ↦ s
    ])
call_beside (Withdraw n) b d s =
    same_answered (Withdraw n) b d (rw (like_at b.files d.files n s.like_files).same_stage)
    (λ v. elim v as (λ v. Beside (changed b (Withdraw n) v) (changed d (Withdraw n) v)) [
      | None ↦ staged_beside Ended b d n s
      | Some r ↦ s
    ])
call_beside (Close n) b d s =
    same_answered (Close n) b d (rw (like_at b.files d.files n s.like_files).same_stage)
    (λ v. elim v as (λ v. Beside (changed b (Close n) v) (changed d (Close n) v)) [
      | None ↦ staged_beside Ended b d n s
      | Some r ↦ s
    ])
call_beside (Judge n bs) b d s = left_alone (Judge n bs) b d (λ v w. judged_beside n bs b d v w s)
call_beside (LookUp bs) b d s = left_alone (LookUp bs) b d go
  where
    go : (v w : Option (ℕ × ℕ)) → Beside (changed b (LookUp bs) v) (changed d (LookUp bs) w)
    go None None = s
    go None (Some r) = s
    go (Some r) None = s
    go (Some r) (Some q) = s
call_beside Total b d s = s

-- ---- Calls of lines

hand_same : (c : Call) (b d : Book) (h : InHand) → Beside b d →
    in_hand_after_call b h c ≡ in_hand_after_call d h c
hand_same (NameFile bs) b d h s =
    ap (λ n. cond (is_some (first_fit naming_rows bs)) h (OnlyNamed n))
    (as_many b.files d.files s.like_files)
hand_same (Identify n bs) b d h s =
    ap (λ v. cond (is_some v) h (InHandIdentified n)) (identify_same n bs b d s)
hand_same _ b d h s = refl

lines_same : (ls : List Bytes) (h : InHand) (b d : Book) → Beside b d →
    calls_of_lines b h ls ≡ calls_of_lines d h ls
lines_same [] h b d s = refl
lines_same (line ∷ ls) h b d s = go (call_of_line h line) (λ next x y t. lines_same ls next x y t)
  where
    go : (c : Option Call) →
        ((next : InHand) (x y : Book) → Beside x y → calls_of_lines x next ls ≡ calls_of_lines y next ls) →
        listed c ++ calls_of_lines (book_with b c) (in_hand_after b h c) ls
        ≡ listed c ++ calls_of_lines (book_with d c) (in_hand_after d h c) ls
    go None later = later h b d s
    go (Some c) later =
        ap (λ cs. c ∷ cs)
        (ap (λ next. calls_of_lines (after b c) next ls) (hand_same c b d h s)
        ∙ later (in_hand_after_call d h c) (after b c) (after d c) (call_beside c b d s))

-- new checkers with room for m and for n lives are made the same calls
pub calls_same : (m n : ℕ) (input : Bytes) → calls_of_input (empty_book m) input ≡ calls_of_input (empty_book n) input
calls_same m n input = lines_same (lines_of input) NoFile (empty_book m) (empty_book n) (record { same_entities = refl; like_files = tt })
