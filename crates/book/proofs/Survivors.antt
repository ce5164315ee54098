-- The survivors of a run do by themselves what the run did.
--
-- Two books go through the run side by side: the full one, and that of the survivors, which holds exactly those lives of the full one that no
-- Error of the rest will take out.
use Rattle.std.proofs.Common.{◌≡◌, ℕ, zero, suc, ◌≤◌, Bool, true, false, cond, not, ◌&&◌, ◌||◌, leb, List, [], ◌∷◌, ◌++◌, length, set, ℤ, is_some, Some, None, filter, Option, sym, refl, ap, ◌∙◌, subst, arith}
use Rattle.std.specs.List.{AllZip}
use Rattle.std.proofs.lemmas.List.Elements.{AllZip-push}
use Rattle.std.proofs.lemmas.List.Filters.{length-filter_both}
use Rattle.std.proofs.lemmas.Bool.{leb-true, le-leb, lt-leb}
use Rattle.text.specs.declared.words.Action.{Action}
use Rattle.text.specs.declared.words.Action.TheVariants.{New, Modify, Error, Cancel}
use Rattle.text.specs.Bytes.{Bytes}
use Rattle.text.specs.Rows.{first_fit}
use Rattle.contract.specs.ContractList.{Contract, offered, Told, market_rows}
use Rattle.filing.specs.Files.{Stage, Identified, Ended, File, at_stage, identified, judged_limit, taking_rows, one_accepted, one_refused}
use Rattle.life.specs.Parts.{KeyParts, LifeParts}
use Rattle.life.specs.Keys.{same_key}
use Rattle.life.specs.Lives.{Lives, look, altered, erase}
use Rattle.life.specs.Rules.{is_new, is_error, life_rows}
use Rattle.life.proofs.KeyOrder.{parts_same, parts_eq}
use Rattle.book.specs.Book.{Book, empty_book, with_files, with_lives, no_file, file_of, put_file, Call, AddEntity, AddContract, NameFile, Identify, Withdraw, Close, Judge, LookUp, Total, told_by, key_of, wanted, is_full, asked, verdict, acted, applied, refused_in, done, changed, after, end}
use Rattle.book.specs.Laws.{no_line, subject, Entry, entry, log, struck, survivors, Taken, EveryLineAccepted, FewerLines, Alike, SurvivorsLaw}
use Rattle.book.proofs.Tables.{none_fits, Passed, passed, passes, room_rows}
use Rattle.book.proofs.Tidy.{file_takes}

-- ---- The lives of some keys

abbrev kept : (KeyParts → Bool) → Lives → Lives
kept keep = filter (λ p. keep p.0)

look_kept : (keep : KeyParts → Bool) (k : KeyParts) → keep k ≡ true → (ls : Lives) → look k (kept keep ls) ≡ look k ls
look_kept keep k h [] = refl
look_kept keep k h (p ∷ ls) = grind (arith, look_kept keep k h ls, parts_eq k p.0)

length_kept : (keep : KeyParts → Bool) (ls : Lives) → length (kept keep ls) ≤ length ls
length_kept keep ls = omega (arith, length-filter_both (λ p. keep p.0) (λ p. not (keep p.0)) (λ _. refl) ls)

altered_kept : (keep : KeyParts → Bool) (k : KeyParts) (f : LifeParts → LifeParts) (ls : Lives) → altered k f (kept keep ls) ≡ kept keep (altered k f ls)
altered_kept keep k f [] = refl
altered_kept keep k f (p ∷ ls) = grind (arith, altered_kept keep k f ls)

altered_dropped : (keep : KeyParts → Bool) (k : KeyParts) (f : LifeParts → LifeParts) → keep k ≡ false → (ls : Lives) → kept keep (altered k f ls) ≡ kept keep ls
altered_dropped keep k f h [] = refl
altered_dropped keep k f h (p ∷ ls) = grind (arith, altered_dropped keep k f h ls, parts_eq k p.0)

-- what a filter that leaves a key out keeps, after and before the key is taken out
erase_kept : (b : KeyParts → Bool) (k : KeyParts) (ls : Lives) → filter (λ p. not (b p.0)) (erase k ls) ≡ filter (λ p. not (same_key k p.0 || b p.0)) ls
erase_kept b k [] = refl
erase_kept b k (p ∷ ls) = grind (arith, erase_kept b k ls)

kept_all : {X : Type 0} (xs : List X) → filter (λ x. true) xs ≡ xs
kept_all [] = refl
kept_all (x ∷ xs) = ap (λ ys. x ∷ ys) (kept_all xs)

-- ---- Files with fewer lines

abbrev Like : List File → List File → Type 0
Like fs gs = AllZip FewerLines fs gs

same_file : (f : File) → FewerLines f f
same_file f = record { same_stage = refl; same_entity = refl; no_more = omega arith }

like_at : (fs gs : List File) (n : ℕ) → Like fs gs → FewerLines (file_of fs n) (file_of gs n)
like_at [] [] n h = same_file no_file
like_at [] (g ∷ gs) n h = absurd h
like_at (f ∷ fs) [] n h = absurd h
like_at (f ∷ fs) (g ∷ gs) zero h = h.0
like_at (f ∷ fs) (g ∷ gs) (suc n) h = like_at fs gs n h.1

like_set : (fs gs : List File) (n : ℕ) (f g : File) → FewerLines f g → Like fs gs → Like (set fs n f) (set gs n g)
like_set [] [] n f g e h = tt
like_set [] (y ∷ gs) n f g e h = absurd h
like_set (x ∷ fs) [] n f g e h = absurd h
like_set (x ∷ fs) (y ∷ gs) zero f g e h = (e, h.1)
like_set (x ∷ fs) (y ∷ gs) (suc n) f g e h = (h.0, like_set fs gs n f g e h.1)

-- only the first changes
like_set_left : (fs gs : List File) (n : ℕ) (f : File) → FewerLines f (file_of gs n) → Like fs gs → Like (set fs n f) gs
like_set_left [] [] n f e h = tt
like_set_left [] (y ∷ gs) n f e h = absurd h
like_set_left (x ∷ fs) [] n f e h = absurd h
like_set_left (x ∷ fs) (y ∷ gs) zero f e h = (e, h.1)
like_set_left (x ∷ fs) (y ∷ gs) (suc n) f e h = (h.0, like_set_left fs gs n f e h.1)

fewer_staged : (s : Stage) (f g : File) → FewerLines f g → FewerLines (at_stage s f) (at_stage s g)
fewer_staged s f g h = record { same_stage = refl; same_entity = h.same_entity; no_more = h.no_more }

fewer_both : (f g : File) → FewerLines f g → FewerLines (one_accepted f) (one_accepted g)
fewer_both f g h = record { same_stage = h.same_stage; same_entity = h.same_entity; no_more = omega (arith, h.no_more) }

fewer_accepted : (f g : File) → FewerLines f g → FewerLines (one_accepted f) g
fewer_accepted f g h = record { same_stage = h.same_stage; same_entity = h.same_entity; no_more = omega (arith, h.no_more) }

fewer_refused : (f g : File) → FewerLines f g → FewerLines (refused_in f) g
fewer_refused f g h = go (is_some (first_fit taking_rows f))
  where
    go : (t : Bool) → FewerLines (cond t f (one_refused f)) g
    go true = h
    go false = record { same_stage = h.same_stage; same_entity = h.same_entity; no_more = omega (arith, h.no_more) }

-- a file with no more lines takes one more where the other does
takes_too : (f g : File) → FewerLines f g → first_fit taking_rows f ≡ None → first_fit taking_rows g ≡ None
takes_too f g h e =
    let w = file_takes f e in
    let at : identified g.stage ≡ true = rw h.same_stage w.0 in
    let less : leb judged_limit g.judged ≡ false = lt-leb _ _ (omega (arith, w.1, h.no_more)) in
    rw (at, less)

-- ---- Two books side by side

-- the keys whose lives the log does not take out
abbrev spared : List Entry → KeyParts → Bool
spared es k = not (struck k es)

-- the second book holds what the first holds of the keys that are kept, and its files have no more lines
record Shadow (keep : KeyParts → Bool) (b b' : Book) : Type 0 where
  as_large : b'.capacity ≡ b.capacity
  entities_too : b'.entities ≡ b.entities
  contracts_too : b'.contracts ≡ b.contracts
  files_too : Like b.files b'.files
  lives_kept : b'.lives ≡ kept keep b.lives

-- what the calls left do to the second book
abbrev Outcome : Book → List Call → Book → Type 0
Outcome b' left b = EveryLineAccepted (log b' left) × Alike b (end b' left)

abbrev Follows : List Call → Type 0
Follows cs = (b b' : Book) → Shadow (spared (log b cs)) b b' → Outcome b' (survivors (log b cs)) (end b cs)

-- ---- Lines

-- a line of a life that will be taken out leaves the kept lives as they are
line_dropped : (a : Action) (k : KeyParts) (t q : ℕ) (p : Option ℤ) (rest : List Entry) (ls : Lives) → (is_error a && same_key k k || struck k rest) ≡ true →
    kept (λ j. not (is_error a && same_key k j || struck j rest)) ls ≡ kept (spared rest) (acted a k t q p ls)
line_dropped New k t q p rest ls h = rw h
line_dropped Modify k t q p rest ls h = sym (altered_dropped (spared rest) k _ (rw h) ls)
line_dropped Error k t q p rest ls h = sym (erase_kept (λ j. struck j rest) k ls)
line_dropped Cancel k t q p rest ls h = sym (altered_dropped (spared rest) k _ (rw h) ls)

-- any other does the same to both
line_carried : (a : Action) (k : KeyParts) (t q : ℕ) (p : Option ℤ) (rest : List Entry) (ls : Lives) → (is_error a && same_key k k || struck k rest) ≡ false →
    acted a k t q p (kept (λ j. not (is_error a && same_key k j || struck j rest)) ls) ≡ kept (spared rest) (acted a k t q p ls)
line_carried New k t q p rest ls h = rw h
line_carried Modify k t q p rest ls h = altered_kept (spared rest) k _ ls
line_carried Error k t q p rest ls h = grind (arith, parts_same k)
line_carried Cancel k t q p rest ls h = altered_kept (spared rest) k _ ls

-- a store with no more lives has room where the other has
room_too : (a : Action) (full full' : Bool) → (full' ≡ true → full ≡ true) → (is_new a && full) ≡ false → (is_new a && full') ≡ false
room_too New full true h e = sym (h refl) ∙ e
room_too New full false h e = refl
room_too Modify full full' h e = refl
room_too Error full full' h e = refl
room_too Cancel full full' h e = refl

-- the same life of its key makes the same claim
wanted_too : (ps ls : Lives) (x : Told) → look (key_of x) ps ≡ look (key_of x) ls → wanted ps x ≡ wanted ls x
wanted_too ps ls x e i = record { does = x.says.action; when = x.says.time; held = e i }

-- an accepted line that is not left out is accepted in the second book too
line_too : (n : ℕ) (bs : Bytes) (keep : KeyParts → Bool) (b b' : Book) → Shadow keep b b' → keep (key_of (told_by b.contracts bs)) ≡ true → Passed b n bs → Passed b' n bs
line_too n bs keep b b' s spare p =
    let told-too : told_by b'.contracts bs ≡ told_by b.contracts bs = ap (λ cs. told_by cs bs) s.contracts_too in
    let held-too : wanted b'.lives (told_by b'.contracts bs) ≡ wanted b.lives (told_by b.contracts bs) =
    ap (wanted b'.lives) told-too ∙ wanted_too b'.lives b.lives (told_by b.contracts bs)
    (ap (look (key_of (told_by b.contracts bs))) s.lives_kept ∙ look_kept keep (key_of (told_by b.contracts bs)) spare b.lives) in
    let full : is_full b' ≡ true → is_full b ≡ true =
    λ h. le-leb _ _ (omega (arith, leb-true _ _ h, s.as_large, length_kept keep b.lives, ap length s.lives_kept)) in
    let room : (is_new (told_by b.contracts bs).says.action && is_full b') ≡ false =
    room_too (told_by b.contracts bs).says.action (is_full b) (is_full b') full (none_fits room_rows (asked b n bs) p.has_room).0 in
    record {
      takes = takes_too _ _ (like_at b.files b'.files n s.files_too) p.takes;
      reads = p.reads;
      lists = ap (first_fit market_rows) told-too ∙ p.lists;
      lives_on = ap (first_fit life_rows) held-too ∙ p.lives_on;
      has_room = rw room;
    }

-- the second book takes the line too, and the rest follows
carry : (n : ℕ) (bs : Bytes) (left : List Call) (z b' : Book) → verdict b' (Judge n bs) ≡ None → Outcome (done b' (Judge n bs)) left z → Outcome b' (Judge n bs ∷ left) z
carry n bs left z b' e o =
    subst (λ v. ((v ≡ None) × EveryLineAccepted (log (changed b' (Judge n bs) v) left)) × Alike z (end (changed b' (Judge n bs) v) left)) (sym e) ((refl, o.0), o.1)

-- the second book misses a line out
missed : (keep more : KeyParts → Bool) (n : ℕ) (f : File) (b b' : Book) (ls : Lives) → Shadow keep b b' → FewerLines f (file_of b'.files n) → kept keep b.lives ≡ kept more ls → Shadow more (put_file (with_lives b ls) n f) b'
missed keep more n f b b' ls s e k = record {
  as_large = s.as_large;
  entities_too = s.entities_too;
  contracts_too = s.contracts_too;
  files_too = like_set_left b.files b'.files n f e s.files_too;
  lives_kept = s.lives_kept ∙ k;
}

-- or takes it
taken_too : (keep more : KeyParts → Bool) (n : ℕ) (f g : File) (b b' : Book) (ls qs : Lives) → Shadow keep b b' → FewerLines f g → qs ≡ kept more ls → Shadow more (put_file (with_lives b ls) n f) (put_file (with_lives b' qs) n g)
taken_too keep more n f g b b' ls qs s e k = record {
  as_large = s.as_large;
  entities_too = s.entities_too;
  contracts_too = s.contracts_too;
  files_too = like_set b.files b'.files n f g e s.files_too;
  lives_kept = k;
}

line_follows : (n : ℕ) (bs : Bytes) (cs : List Call) → Follows cs → (b b' : Book) (v : Option (ℕ × ℕ)) → verdict b (Judge n bs) ≡ v →
    Shadow (spared (entry b (Judge n bs) v ∷ log (changed b (Judge n bs) v) cs)) b b' →
    Outcome b' (survivors (entry b (Judge n bs) v ∷ log (changed b (Judge n bs) v) cs)) (end (changed b (Judge n bs) v) cs)
line_follows n bs cs ih b b' (Some r) e s =
    ih _ b' (missed _ _ n _ b b' b.lives s (fewer_refused _ _ (like_at b.files b'.files n s.files_too)) refl)
line_follows n bs cs ih b b' None e s = go (struck k es) refl
  where
    c : Call
    c = Judge n bs

    x : Told
    x = told_by b.contracts bs

    k : KeyParts
    k = key_of x

    rest : List Entry
    rest = log (done b c) cs

    es : List Entry
    es = entry b c None ∷ rest

    ls : Lives
    ls = applied k x.says b.lives

    like : FewerLines (file_of b.files n) (file_of b'.files n)
    like = like_at b.files b'.files n s.files_too

    same : applied (key_of (told_by b'.contracts bs)) (told_by b'.contracts bs).says b'.lives ≡ applied k x.says (kept (spared es) b.lives)
    same = rw (s.contracts_too, s.lives_kept)

    go : (t : Bool) → struck k es ≡ t → Outcome b' (cond t (survivors rest) (c ∷ survivors rest)) (end (done b c) cs)
    go true h =
        ih (done b c) b' (missed _ _ n _ b b' ls s (fewer_accepted _ _ like) (line_dropped x.says.action k x.says.time x.says.quantity x.says.price rest b.lives h))
    go false h =
        carry n bs _ _ b' (passes b' n bs (line_too n bs (spared es) b b' s (rw h) (passed b n bs e)))
        (ih (done b c) (done b' c) (taken_too (spared es) (spared rest) n _ _ b b' ls _ s (fewer_both _ _ like)
        (same ∙ line_carried x.says.action k x.says.time x.says.quantity x.says.price rest b.lives h)))

-- ---- The other calls: both books answer the same, and stay side by side

-- both books refuse the call by the same row or none, and are still side by side after it
abbrev BothGo : Call → Type 0
BothGo c = (keep : KeyParts → Bool) (b b' : Book) → Shadow keep b b' → (verdict b' c ≡ verdict b c) × ((v : Option (ℕ × ℕ)) → Shadow keep (changed b c v) (changed b' c v))

like_files : (keep : KeyParts → Bool) (b b' : Book) (fs gs : List File) → Shadow keep b b' → Like fs gs → Shadow keep (with_files b fs) (with_files b' gs)
like_files keep b b' fs gs s h = record { as_large = s.as_large; entities_too = s.entities_too; contracts_too = s.contracts_too; files_too = h; lives_kept = s.lives_kept }

like_staged : (to : Stage) (n : ℕ) (keep : KeyParts → Bool) (b b' : Book) → Shadow keep b b' → Shadow keep (put_file b n (at_stage to (file_of b.files n))) (put_file b' n (at_stage to (file_of b'.files n)))
like_staged to n keep b b' s = like_files keep b b' _ _ s (like_set b.files b'.files n _ _ (fewer_staged to _ _ (like_at b.files b'.files n s.files_too)) s.files_too)

go_entity : (bs : Bytes) → BothGo (AddEntity bs)
go_entity bs keep b b' s = (
  rw s.entities_too,
  λ v. elim v as (λ v. Shadow keep (changed b (AddEntity bs) v) (changed b' (AddEntity bs) v)) [
    | None ↦ record { as_large = s.as_large; entities_too = ap (λ xs. xs ++ bs ∷ []) s.entities_too; contracts_too = s.contracts_too; files_too = s.files_too; lives_kept = s.lives_kept }
    | Some r ↦ s
  ],
)

go_contract : (bs : Bytes) → BothGo (AddContract bs)
go_contract bs keep b b' s = (
  rw s.contracts_too,
  λ v. elim v as (λ v. Shadow keep (changed b (AddContract bs) v) (changed b' (AddContract bs) v)) [
    | None ↦ record { as_large = s.as_large; entities_too = s.entities_too; contracts_too = ap (λ xs. xs ++ offered bs ∷ []) s.contracts_too; files_too = s.files_too; lives_kept = s.lives_kept }
    | Some r ↦ s
  ],
)

go_name : (bs : Bytes) → BothGo (NameFile bs)
go_name bs keep b b' s = (
  refl,
  λ v. elim v as (λ v. Shadow keep (changed b (NameFile bs) v) (changed b' (NameFile bs) v)) [
    | None ↦ like_files keep b b' _ _ s (AllZip-push FewerLines b.files b'.files _ _ s.files_too (same_file _))
    | Some r ↦ s
  ],
)

go_identify : (n : ℕ) (bs : Bytes) → BothGo (Identify n bs)
go_identify n bs keep b b' s =
    let like = like_at b.files b'.files n s.files_too in (
      rw (like.same_stage, like.same_entity, s.entities_too),
      λ v. elim v as (λ v. Shadow keep (changed b (Identify n bs) v) (changed b' (Identify n bs) v)) [
        | None ↦ like_staged Identified n keep b b' s
        | Some r ↦ s
      ],
    )

go_withdraw : (n : ℕ) → BothGo (Withdraw n)
go_withdraw n keep b b' s = (
  rw (like_at b.files b'.files n s.files_too).same_stage,
  λ v. elim v as (λ v. Shadow keep (changed b (Withdraw n) v) (changed b' (Withdraw n) v)) [
    | None ↦ like_staged Ended n keep b b' s
    | Some r ↦ s
  ],
)

go_close : (n : ℕ) → BothGo (Close n)
go_close n keep b b' s = (
  rw (like_at b.files b'.files n s.files_too).same_stage,
  λ v. elim v as (λ v. Shadow keep (changed b (Close n) v) (changed b' (Close n) v)) [
    | None ↦ like_staged Ended n keep b b' s
    | Some r ↦ s
  ],
)

go_look_up : (bs : Bytes) → BothGo (LookUp bs)
go_look_up bs keep b b' s = (rw s.contracts_too, λ v. elim v as (λ v. Shadow keep (changed b (LookUp bs) v) (changed b' (LookUp bs) v)) [ None ↦ s | Some r ↦ s ])

go_total : BothGo Total
go_total keep b b' s = (refl, λ v. elim v as (λ v. Shadow keep (changed b Total v) (changed b' Total v)) [ None ↦ s | Some r ↦ s ])

-- such a call stays whatever it is answered, and the rest follows
along : (c : Call) (left : List Call) (z b' : Book) (v : Option (ℕ × ℕ)) → subject b'.contracts c ≡ no_line → verdict b' c ≡ v → Outcome (changed b' c v) left z → Outcome b' (c ∷ left) z
along c left z b' v n e o =
    subst (λ w. (Taken (subject b'.contracts c) w × EveryLineAccepted (log (changed b' c w) left)) × Alike z (end (changed b' c w) left)) (sym e)
    ((subst (λ x. Taken x v) (sym n) tt, o.0), o.1)

call_follows : (c : Call) → ((ks : List Contract) → subject ks c ≡ no_line) → BothGo c → (cs : List Call) → Follows cs → (b b' : Book) → Shadow (spared (log (after b c) cs)) b b' → Outcome b' (c ∷ survivors (log (after b c) cs)) (end (after b c) cs)
call_follows c n both cs ih b b' s =
    let t = both _ b b' s in
    along c _ _ b' (verdict b c) (n b'.contracts) t.0 (ih (after b c) (changed b' c (verdict b c)) (t.1 (verdict b c)))

follows : (cs : List Call) → Follows cs
follows [] b b' s = (tt, record { same_entities = s.entities_too; same_contracts = s.contracts_too; like_files = s.files_too; same_lives = s.lives_kept ∙ kept_all b.lives })
follows (AddEntity bs ∷ cs) b b' s = call_follows (AddEntity bs) (λ _. refl) (go_entity bs) cs (follows cs) b b' s
follows (AddContract bs ∷ cs) b b' s = call_follows (AddContract bs) (λ _. refl) (go_contract bs) cs (follows cs) b b' s
follows (NameFile bs ∷ cs) b b' s = call_follows (NameFile bs) (λ _. refl) (go_name bs) cs (follows cs) b b' s
follows (Identify n bs ∷ cs) b b' s = call_follows (Identify n bs) (λ _. refl) (go_identify n bs) cs (follows cs) b b' s
follows (Withdraw n ∷ cs) b b' s = call_follows (Withdraw n) (λ _. refl) (go_withdraw n) cs (follows cs) b b' s
follows (Close n ∷ cs) b b' s = call_follows (Close n) (λ _. refl) (go_close n) cs (follows cs) b b' s
follows (Judge n bs ∷ cs) b b' s = line_follows n bs cs (follows cs) b b' (verdict b (Judge n bs)) refl s
follows (LookUp bs ∷ cs) b b' s = call_follows (LookUp bs) (λ _. refl) (go_look_up bs) cs (follows cs) b b' s
follows (Total ∷ cs) b b' s = call_follows Total (λ _. refl) go_total cs (follows cs) b b' s

pub survivors_law : SurvivorsLaw
survivors_law capacity calls =
    follows calls (empty_book capacity) (empty_book capacity)
    (record { as_large = refl; entities_too = refl; contracts_too = refl; files_too = tt; lives_kept = refl })
