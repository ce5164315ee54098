-- The files of a book count what a run's calls and answers tell.
use Rattle.std.proofs.Common.{◌≡◌, ℕ, zero, suc, ◌+◌, ◌<◌, ◌≤◌, Bool, true, false, cond, not, ◌&&◌, ◌||◌, eqb, List, [], ◌∷◌, ◌++◌, length, set, is_some, Some, None, Option, sym, refl, ap, ◌∙◌, subst, ◌⊎◌, inl, inr, ⊎_elim, count_by, zip, arith}
use Rattle.std.specs.List.{AllByRecursion, list_all}
use Rattle.std.proofs.ByRecursion.{All-set, All-push}
use Rattle.std.proofs.lemmas.List.{get_or-set_same, get_or-set_other, set-get_or}
use Rattle.std.proofs.lemmas.List.Sums.{sum_by-cons}
use Rattle.std.proofs.lemmas.Bool.{true≢false, and_parts, not-true, not-false, cases_Bool, eqb-true, eqb-false, cond-true, cond-false}
use Rattle.text.specs.Bytes.{Bytes, value}
use Rattle.filing.specs.Names.{name_form}
use Rattle.text.specs.Rows.{Row, first_fit}
use Rattle.text.proofs.Tables.{or_else}
use Rattle.filing.specs.Files.{Stage, Named, Identified, Ended, File, named_file, at_stage, only_named, identified, taking_rows, withdrawing_rows, closing_rows, identifying_rows, one_accepted, one_refused}
use Rattle.book.specs.Book.{Book, empty_book, no_file, file_of, Call, NameFile, Identify, Withdraw, Close, Judge, Answer, Receipt, receipt, asked, verdict, refused_in, changed, after, answered, answer, answers, end}
use Rattle.book.specs.FileLaws.{AnsweredCall, was_judged, was_accepted, was_refused, was_ended, Counts, FilesLaw}
use Rattle.book.proofs.Tables.{none_fits, passed, fit_parts, from_line}
use Rattle.book.proofs.Tidy.{file_takes}

-- ---- The numbers of a line's rows

abbrev away : ℕ → Bool
away number = eqb number 66 || eqb number 9

fit_number : {X : Type 0} (rs : List (Row X)) (x : X) (p : ℕ × ℕ) → list_all (λ r. not (away r.number)) rs ≡ true → first_fit rs x ≡ Some p → away p.0 ≡ false
fit_number [] x p h e = let z : ◌≡◌ {A = ℕ} 0 1 = cc in absurd (omega arith)
fit_number (r ∷ rs) x p h e =
    let parts : (not (away r.number) ≡ true) × (list_all (λ s. not (away s.number)) rs ≡ true) = and_parts _ _ h in
    go (r.fits x) (not-true _ parts.0) (λ f. fit_number rs x p parts.1 f) e
  where
    go : (t : Bool) → away r.number ≡ false → (first_fit rs x ≡ Some p → away p.0 ≡ false) → cond t (Some (r.number, r.for_field)) (first_fit rs x) ≡ Some p → away p.0 ≡ false
    go true h more f = let same : (r.number, r.for_field) ≡ p = cc in ap (λ q. away q.0) (sym same) ∙ h
    go false h more f = more f

-- none of the rows after those of the file is 66 or 9
later_numbers : list_all (λ r. not (away r.number)) from_line ≡ true
later_numbers = refl

-- and both rows of the file are
taking_number : (f : File) (p : ℕ × ℕ) → first_fit taking_rows f ≡ Some p → away p.0 ≡ true
taking_number f p e = go (not (identified f.stage)) _ e
  where
    go : (t u : Bool) → cond t (Some (66, 0)) (cond u (Some (9, 0)) None) ≡ Some p → away p.0 ≡ true
    go true u h = let same : (66, 0) ≡ p = cc in ap (λ q. away q.0) (sym same)
    go false true h = let same : (9, 0) ≡ p = cc in ap (λ q. away q.0) (sym same)
    go false false h = let z : ◌≡◌ {A = ℕ} 0 1 = cc in absurd (omega arith)

-- a line is turned away exactly where its file takes none
line_away : (b : Book) (n : ℕ) (bs : Bytes) (r : ℕ × ℕ) → verdict b (Judge n bs) ≡ Some r → away r.0 ≡ is_some (first_fit taking_rows (file_of b.files n))
line_away b n bs r e = go (first_fit taking_rows (file_of b.files n)) refl
  where
    parts : or_else (first_fit taking_rows (file_of b.files n)) (first_fit from_line (asked b n bs)) ≡ Some r
    parts = sym (fit_parts (λ y. y.in_file) taking_rows from_line (asked b n bs)) ∙ e

    go : (o : Option (ℕ × ℕ)) → first_fit taking_rows (file_of b.files n) ≡ o → away r.0 ≡ is_some o
    go None h = fit_number from_line (asked b n bs) r later_numbers (ap (λ o. or_else o (first_fit from_line (asked b n bs))) (sym h) ∙ parts)
    go (Some q) h = taking_number (file_of b.files n) r (h ∙ ap (λ o. or_else o (first_fit from_line (asked b n bs))) (sym h) ∙ parts)

-- ---- What one call adds to the counts of a file

-- a line was judged, accepted or refused, as the three tests say
record Adds (all good bad : Bool) (f g : File) : Type 0 where
  judged : g.judged ≡ cond all 1 0 + f.judged
  accepted : g.accepted ≡ cond good 1 0 + f.accepted
  refused : g.refused ≡ cond bad 1 0 + f.refused

abbrev Counted : ℕ → Call → Answer → List File → List File → Type 0
Counted n c a fs gs = Adds (was_judged n (c, a)) (was_accepted n (c, a)) (was_refused n (c, a)) (file_of fs n) (file_of gs n)

nothing : (f g : File) → g.judged ≡ f.judged → g.accepted ≡ f.accepted → g.refused ≡ f.refused → Adds false false false f g
nothing f g j a r = record { judged = omega (arith, j); accepted = omega (arith, a); refused = omega (arith, r) }

same_counts : (f : File) → Adds false false false f f
same_counts f = nothing f f refl refl refl

pushed : (code : Bytes) (fs : List File) (n : ℕ) → Adds false false false (file_of fs n) (file_of (fs ++ named_file code ∷ []) n)
pushed code [] zero = nothing no_file (named_file code) refl refl refl
pushed code [] (suc n) = same_counts no_file
pushed code (f ∷ fs) zero = same_counts f
pushed code (f ∷ fs) (suc n) = pushed code fs n

staged : (s : Stage) (fs : List File) (m n : ℕ) → Adds false false false (file_of fs n) (file_of (set fs m (at_stage s (file_of fs m))) n)
staged s [] m n = same_counts no_file
staged s (f ∷ fs) zero zero = nothing f (at_stage s f) refl refl refl
staged s (f ∷ fs) zero (suc n) = same_counts (file_of fs n)
staged s (f ∷ fs) (suc m) zero = same_counts f
staged s (f ∷ fs) (suc m) (suc n) = staged s fs m n

-- a file that takes lines is in the list
in_list : (fs : List File) (m : ℕ) → identified (file_of fs m).stage ≡ true → m < length fs
in_list [] m h = absurd (true≢false (sym h))
in_list (f ∷ fs) zero h = omega arith
in_list (f ∷ fs) (suc m) h = let l = in_list fs m h in omega arith

put_at : (fs : List File) (m n : ℕ) (f : File) → m < length fs → file_of (set fs m f) n ≡ cond (eqb m n) f (file_of fs n)
put_at fs m n f l =
    ⊎_elim
    (λ e. ap (λ k. file_of (set fs m f) k) (sym (eqb-true m n e)) ∙ get_or-set_same fs m f _ l ∙ sym (cond-true _ _ _ e))
    (λ e. get_or-set_other fs m n f _ (λ q. eqb-false m n e (sym q)) ∙ sym (cond-false _ _ _ e))
    (cases_Bool (eqb m n))

-- where the call is on the file
here : (m n : ℕ) (fs : List File) → eqb m n ≡ true → file_of fs m ≡ file_of fs n
here m n fs e = ap (file_of fs) (eqb-true m n e)

module _ (f g : File) where
  accepted_adds : (t : Bool) → (t ≡ true → g ≡ f) → Adds (t && true) (t && true) ((t && true) && false) f (cond t (one_accepted g) f)
  accepted_adds true e =
      let same = e refl in
      let j : g.judged ≡ f.judged = ap (λ (x : File). x.judged) same in
      let a : g.accepted ≡ f.accepted = ap (λ (x : File). x.accepted) same in
      let r : g.refused ≡ f.refused = ap (λ (x : File). x.refused) same in
      record { judged = omega (arith, j); accepted = omega (arith, a); refused = omega (arith, r) }
  accepted_adds false e = same_counts f

  refused_adds : (t : Bool) → (t ≡ true → g ≡ f) → Adds (t && true) (t && false) ((t && true) && true) f (cond t (one_refused g) f)
  refused_adds true e =
      let same = e refl in
      let j : g.judged ≡ f.judged = ap (λ (x : File). x.judged) same in
      let a : g.accepted ≡ f.accepted = ap (λ (x : File). x.accepted) same in
      let r : g.refused ≡ f.refused = ap (λ (x : File). x.refused) same in
      record { judged = omega (arith, j); accepted = omega (arith, a); refused = omega (arith, r) }
  refused_adds false e = same_counts f

away_adds : (t : Bool) (f : File) → Adds (t && false) (t && false) ((t && false) && true) f f
away_adds true f = same_counts f
away_adds false f = same_counts f

-- a refused line, turned away or not
abbrev Line : (m n : ℕ) → Book → Bool → List File → Type 0
Line m n b t gs = Adds (eqb m n && not t) (eqb m n && false) ((eqb m n && not t) && true) (file_of b.files n) (file_of gs n)

line_counted : (n m : ℕ) (bs : Bytes) (b : Book) (v : Option (ℕ × ℕ)) → verdict b (Judge m bs) ≡ v →
    Counted n (Judge m bs) (answered b (Judge m bs) v) b.files (changed b (Judge m bs) v).files
line_counted n m bs b None e =
    let f = file_of b.files m in
    let l = in_list b.files m (file_takes f (passed b m bs e).takes).0 in
    subst (Adds (eqb m n && true) (eqb m n && true) ((eqb m n && true) && false) (file_of b.files n)) (sym (put_at b.files m n (one_accepted f) l))
    (accepted_adds (file_of b.files n) f (eqb m n) (here m n b.files))
line_counted n m bs b (Some r) e = go (first_fit taking_rows (file_of b.files m)) refl
  where
    go : (o : Option (ℕ × ℕ)) → first_fit taking_rows (file_of b.files m) ≡ o → Line m n b (away r.0) (set b.files m (refused_in (file_of b.files m)))
    go (Some q) h =
        let f : File = file_of b.files m in
        let a : away r.0 ≡ true = line_away b m bs r e ∙ ap is_some h in
        let same : set b.files m (refused_in f) ≡ b.files = ap (λ o. set b.files m (cond (is_some o) f (one_refused f))) h ∙ set-get_or b.files m _ in
        subst (λ t. Line m n b t (set b.files m (refused_in f))) (sym a) (subst (Line m n b true) (sym same) (away_adds (eqb m n) (file_of b.files n)))
    go None h =
        let f : File = file_of b.files m in
        let a : away r.0 ≡ false = line_away b m bs r e ∙ ap is_some h in
        let l = in_list b.files m (file_takes f h).0 in
        let same : set b.files m (refused_in f) ≡ set b.files m (one_refused f) = ap (λ o. set b.files m (cond (is_some o) f (one_refused f))) h in
        subst (λ t. Line m n b t (set b.files m (refused_in f))) (sym a)
        (subst (Line m n b false) (sym same)
        (subst (Adds (eqb m n && true) (eqb m n && false) ((eqb m n && true) && true) (file_of b.files n)) (sym (put_at b.files m n (one_refused f) l))
        (refused_adds (file_of b.files n) f (eqb m n) (here m n b.files))))

call_counted : (n : ℕ) (c : Call) (b : Book) (v : Option (ℕ × ℕ)) → verdict b c ≡ v → Counted n c (answered b c v) b.files (changed b c v).files
call_counted n (Judge m bs) b v e = line_counted n m bs b v e
call_counted n (NameFile bs) b None e = pushed _ b.files n
call_counted n (Identify m bs) b None e = staged Identified b.files m n
call_counted n (Withdraw m) b None e = staged Ended b.files m n
call_counted n (Close m) b None e = staged Ended b.files m n
call_counted n _ b (Some r) e = same_counts _
call_counted n _ b None e = same_counts _

-- ---- What a run adds

-- the counts of a file after a run, from those before
record Summed (n : ℕ) (said : List AnsweredCall) (f g : File) : Type 0 where
  judged : g.judged ≡ count_by (was_judged n) said + f.judged
  accepted : g.accepted ≡ count_by (was_accepted n) said + f.accepted
  refused : g.refused ≡ count_by (was_refused n) said + f.refused

abbrev said_by : Book → List Call → List AnsweredCall
said_by b cs = zip cs (answers b cs)

-- a count over one call and then more
count_on : (p : AnsweredCall → Bool) (s : AnsweredCall) (more : List AnsweredCall) → count_by p (s ∷ more) ≡ cond (p s) 1 0 + count_by p more
count_on p s more = sum_by-cons (λ x. cond (p x) 1 0) s more

summed : (p : AnsweredCall → Bool) (s : AnsweredCall) (more : List AnsweredCall) (f g h : ℕ) → g ≡ cond (p s) 1 0 + f → h ≡ count_by p more + g → h ≡ count_by p (s ∷ more) + f
summed p s more f g h a b = omega (arith, count_on p s more)

run_counted : (n : ℕ) (cs : List Call) (b : Book) → Summed n (said_by b cs) (file_of b.files n) (file_of (end b cs).files n)
run_counted n [] b = record { judged = omega arith; accepted = omega arith; refused = omega arith }
run_counted n (c ∷ cs) b =
    let one = call_counted n c b (verdict b c) refl in
    let s : AnsweredCall = (c, answer b c) in
    let more : List AnsweredCall = said_by (after b c) cs in
    let rest = run_counted n cs (after b c) in
    record {
      judged = summed (was_judged n) s more _ _ _ one.judged rest.judged;
      accepted = summed (was_accepted n) s more _ _ _ one.accepted rest.accepted;
      refused = summed (was_refused n) s more _ _ _ one.refused rest.refused;
    }

counts : (n capacity : ℕ) (cs : List Call) → let f = file_of (end (empty_book capacity) cs).files n in Counts n (said_by (empty_book capacity) cs) f.judged f.accepted f.refused
counts n capacity cs =
    let s = run_counted n cs (empty_book capacity) in
    record {
      all_judged = omega (arith, s.judged);
      all_accepted = omega (arith, s.accepted);
      all_refused = omega (arith, s.refused);
    }

-- ---- Ends

abbrev over : Stage → ℕ
over Ended = 1
over Named = 0
over Identified = 0

-- 1 where the file is in the list and has ended
abbrev done_at : List File → ℕ → ℕ
done_at [] n = 0
done_at (f ∷ fs) zero = over f.stage
done_at (f ∷ fs) (suc n) = done_at fs n

over_most : (s : Stage) → over s ≤ 1
over_most Named = omega arith
over_most Identified = omega arith
over_most Ended = omega arith

done_most : (fs : List File) (n : ℕ) → done_at fs n ≤ 1
done_most [] n = omega arith
done_most (f ∷ fs) zero = over_most f.stage
done_most (f ∷ fs) (suc n) = done_most fs n

done_push : (code : Bytes) (fs : List File) (n : ℕ) → done_at fs n ≤ done_at (fs ++ named_file code ∷ []) n
done_push code [] n = omega arith
done_push code (f ∷ fs) zero = omega arith
done_push code (f ∷ fs) (suc n) = done_push code fs n

-- a file is put that is ended if the one before was
done_put : (fs : List File) (m n : ℕ) (g : File) → over (file_of fs m).stage ≤ over g.stage → done_at fs n ≤ done_at (set fs m g) n
done_put [] m n g h = omega arith
done_put (f ∷ fs) zero zero g h = h
done_put (f ∷ fs) zero (suc n) g h = omega arith
done_put (f ∷ fs) (suc m) zero g h = omega arith
done_put (f ∷ fs) (suc m) (suc n) g h = done_put fs m n g h

done_here : (fs : List File) (m : ℕ) (g : File) → over (file_of fs m).stage ≡ 0 → over g.stage ≡ 1 → (done_at fs m ≡ 0) × (done_at (set fs m g) m ≡ 1)
done_here [] m g h k = let z : ◌≡◌ {A = ℕ} 1 0 = h in absurd (omega arith)
done_here (f ∷ fs) zero g h k = (h, k)
done_here (f ∷ fs) (suc m) g h k = done_here fs m g h k

-- a file that stands at an earlier stage is ended
done_end : (fs : List File) (m n : ℕ) → over (file_of fs m).stage ≡ 0 →
    cond (eqb m n && true) 1 0 + done_at fs n ≤ done_at (set fs m (at_stage Ended (file_of fs m))) n
done_end fs m n h =
    let g : File = at_stage Ended (file_of fs m) in
    let stays = done_put fs m n g (omega (arith, h)) in
    let ends = done_here fs m g h refl in
    ⊎_elim
    (λ e. rw e (subst (λ k. 1 + done_at fs k ≤ done_at (set fs m g) k) (eqb-true m n e) (omega (arith, ends.0, ends.1))))
    (λ e. rw e (omega (arith, stays)))
    (cases_Bool (eqb m n))

not_over : (s : Stage) → (only_named s ≡ true) ⊎ (identified s ≡ true) → over s ≡ 0
not_over Named h = refl
not_over Identified h = refl
not_over Ended h = absurd (⊎_elim (λ e. true≢false (sym e)) (λ e. true≢false (sym e)) h)

abbrev Ends : ℕ → Call → Answer → List File → List File → Type 0
Ends n c a fs gs = cond (was_ended n (c, a)) 1 0 + done_at fs n ≤ done_at gs n

stays_done : (fs : List File) (n : ℕ) → 0 + done_at fs n ≤ done_at fs n
stays_done fs n = omega arith

no_receipt : (t : Bool) (fs : List File) (n : ℕ) → cond (t && false) 1 0 + done_at fs n ≤ done_at fs n
no_receipt true fs n = omega arith
no_receipt false fs n = omega arith

stage_named : (b : Book) (m : ℕ) → verdict b (Withdraw m) ≡ None → only_named (file_of b.files m).stage ≡ true
stage_named b m e = not-false _ (none_fits withdrawing_rows (file_of b.files m) e).0

stage_identified : (b : Book) (m : ℕ) → verdict b (Close m) ≡ None → identified (file_of b.files m).stage ≡ true
stage_identified b m e = not-false _ (none_fits closing_rows (file_of b.files m) e).0

stage_unidentified : (b : Book) (m : ℕ) (bs : Bytes) → verdict b (Identify m bs) ≡ None → only_named (file_of b.files m).stage ≡ true
stage_unidentified b m bs e = not-false _ (none_fits identifying_rows (b.entities, file_of b.files m, bs) e).0

refused_stage : (f : File) → over f.stage ≤ over (refused_in f).stage
refused_stage f = go (is_some (first_fit taking_rows f))
  where
    go : (t : Bool) → over f.stage ≤ over (cond t f (one_refused f)).stage
    go true = omega arith
    go false = omega arith

call_ends : (n : ℕ) (c : Call) (b : Book) (v : Option (ℕ × ℕ)) → verdict b c ≡ v → Ends n c (answered b c v) b.files (changed b c v).files
call_ends n (NameFile bs) b None e = let code : Bytes = value [] (name_form bs) in omega (arith, done_push code b.files n)
call_ends n (Identify m bs) b None e =
    let h = not_over (file_of b.files m).stage (inl (stage_unidentified b m bs e)) in
    omega (arith, done_put b.files m n (at_stage Identified (file_of b.files m)) (omega (arith, h)))
call_ends n (Withdraw m) b (Some r) e = no_receipt (eqb m n) b.files n
call_ends n (Withdraw m) b None e = done_end b.files m n (not_over (file_of b.files m).stage (inl (stage_named b m e)))
call_ends n (Close m) b (Some r) e = no_receipt (eqb m n) b.files n
call_ends n (Close m) b None e = done_end b.files m n (not_over (file_of b.files m).stage (inr (stage_identified b m e)))
call_ends n (Judge m bs) b (Some r) e = omega (arith, done_put b.files m n (refused_in (file_of b.files m)) (refused_stage (file_of b.files m)))
call_ends n (Judge m bs) b None e = omega (arith, done_put b.files m n (one_accepted (file_of b.files m)) (omega arith))
call_ends n _ b (Some r) e = stays_done b.files n
call_ends n _ b None e = stays_done b.files n

under : (p : AnsweredCall → Bool) (s : AnsweredCall) (more : List AnsweredCall) (f g h : ℕ) → cond (p s) 1 0 + f ≤ g → count_by p more + g ≤ h → count_by p (s ∷ more) + f ≤ h
under p s more f g h a b = omega (arith, count_on p s more)

run_ends : (n : ℕ) (cs : List Call) (b : Book) → count_by (was_ended n) (said_by b cs) + done_at b.files n ≤ done_at (end b cs).files n
run_ends n [] b = omega arith
run_ends n (c ∷ cs) b =
    let one = call_ends n c b (verdict b c) refl in
    under (was_ended n) (c, answer b c) (said_by (after b c) cs) _ _ _ one (run_ends n cs (after b c))

-- ---- A file that is only named has no lines

record Zeros (f : File) : Type 0 where
  judged : f.judged ≡ 0
  accepted : f.accepted ≡ 0
  refused : f.refused ≡ 0

abbrev Fresh : File → Type 0
Fresh f = only_named f.stage ≡ true → Zeros f

file_fresh : (fs : List File) (n : ℕ) → AllByRecursion Fresh fs → Fresh (file_of fs n)
file_fresh [] n h = λ e. absurd (true≢false (sym e))
file_fresh (f ∷ fs) zero h = h.0
file_fresh (f ∷ fs) (suc n) h = file_fresh fs n h.1

apart : (s : Stage) → identified s ≡ true → only_named s ≡ true → ⊥
apart Named h e = true≢false (sym h)
apart Identified h e = true≢false (sym e)
apart Ended h e = true≢false (sym e)

refused_fresh : (f : File) → Fresh f → Fresh (refused_in f)
refused_fresh f h = go (first_fit taking_rows f) refl
  where
    go : (o : Option (ℕ × ℕ)) → first_fit taking_rows f ≡ o → Fresh (cond (is_some o) f (one_refused f))
    go (Some r) e = h
    go None e = λ s. absurd (apart f.stage (file_takes f e).0 s)

call_fresh : (c : Call) (b : Book) (v : Option (ℕ × ℕ)) → verdict b c ≡ v → AllByRecursion Fresh b.files → AllByRecursion Fresh (changed b c v).files
call_fresh (NameFile bs) b None e h = All-push Fresh b.files _ h (λ _. record { judged = refl; accepted = refl; refused = refl })
call_fresh (Identify n bs) b None e h = All-set Fresh b.files n _ (λ s. absurd (true≢false (sym s))) h
call_fresh (Withdraw n) b None e h = All-set Fresh b.files n _ (λ s. absurd (true≢false (sym s))) h
call_fresh (Close n) b None e h = All-set Fresh b.files n _ (λ s. absurd (true≢false (sym s))) h
call_fresh (Judge n bs) b (Some r) e h = All-set Fresh b.files n _ (refused_fresh _ (file_fresh b.files n h)) h
call_fresh (Judge n bs) b None e h = All-set Fresh b.files n _ (λ s. absurd (apart (file_of b.files n).stage (file_takes (file_of b.files n) (passed b n bs e).takes).0 s)) h
call_fresh _ b (Some r) e h = h
call_fresh _ b None e h = h

run_fresh : (cs : List Call) (b : Book) → AllByRecursion Fresh b.files → AllByRecursion Fresh (end b cs).files
run_fresh [] b h = h
run_fresh (c ∷ cs) b h = run_fresh cs (after b c) (call_fresh c b (verdict b c) refl h)

-- ---- A place in a run

-- a run up to a call, and what the call was answered
record Place (b : Book) (before : List AnsweredCall) (c : Call) (a : Answer) : Type 0 where
  past : List Call
  are : before ≡ said_by b past
  told : a ≡ answer (end b past) c

place : (before : List AnsweredCall) (cs : List Call) (b : Book) (c : Call) (a : Answer) (later : List AnsweredCall) → said_by b cs ≡ before ++ (c, a) ∷ later → Place b before c a
place [] [] b c a later e = let z : ◌≡◌ {A = ℕ} 0 1 = cc in absurd (omega arith)
place [] (d ∷ cs) b c a later e =
    let x : AnsweredCall = (d, answer b d) in
    let y : AnsweredCall = (c, a) in
    let same : x ≡ y = cc in
    record { past = []; are = refl; told = sym (ap (λ s. s.1) same) ∙ ap (λ s. answer b s.0) same }
place (s ∷ before) [] b c a later e = let z : ◌≡◌ {A = ℕ} 0 1 = cc in absurd (omega arith)
place (s ∷ before) (d ∷ cs) b c a later e =
    let x : AnsweredCall = (d, answer b d) in
    let first : x ≡ s = cc in
    let rest : said_by (after b d) cs ≡ before ++ (c, a) ∷ later = cc in
    let p = place before cs (after b d) c a later rest in
    record { past = d ∷ p.past; are = ap (λ x. x ∷ before) (sym first) ∙ ap (λ xs. (d, answer b d) ∷ xs) p.are; told = p.told }

-- the numbers of a receipt
record Reads (j a r : ℕ) (f : File) : Type 0 where
  judged : j ≡ f.judged
  accepted : a ≡ f.accepted
  refused : r ≡ f.refused

reads : (j a r : ℕ) (f : File) → Receipt j a r ≡ receipt f → Reads j a r f
reads j a r f e = record { judged = cc; accepted = cc; refused = cc }

closing_reads : (b : Book) (n j a r : ℕ) → Receipt j a r ≡ answer b (Close n) → Reads j a r (file_of b.files n)
closing_reads b n j a r e = go (verdict b (Close n)) e
  where
    go : (v : Option (ℕ × ℕ)) → Receipt j a r ≡ answered b (Close n) v → Reads j a r (file_of b.files n)
    go None h = reads j a r _ h
    go (Some q) h = let z : ◌≡◌ {A = ℕ} 0 1 = cc in absurd (omega arith)

withdrawing_reads : (b : Book) (n j a r : ℕ) → Receipt j a r ≡ answer b (Withdraw n) → Reads j a r (file_of b.files n) × (only_named (file_of b.files n).stage ≡ true)
withdrawing_reads b n j a r e = go (verdict b (Withdraw n)) refl e
  where
    go : (v : Option (ℕ × ℕ)) → verdict b (Withdraw n) ≡ v → Receipt j a r ≡ answered b (Withdraw n) v → Reads j a r (file_of b.files n) × (only_named (file_of b.files n).stage ≡ true)
    go None w h = (reads j a r _ h, stage_named b n w)
    go (Some q) w h = let z : ◌≡◌ {A = ℕ} 0 1 = cc in absurd (omega arith)

pub files_law : FilesLaw
files_law capacity calls = record {
  each_line = λ n. counts n capacity calls;
  one_end = λ n.
      let b : Book = end (empty_book capacity) calls in
      omega (arith, run_ends n calls (empty_book capacity), done_most b.files n);
  closed = λ n j a r before later e.
      let p = place before calls (empty_book capacity) (Close n) (Receipt j a r) later e in
      let x = closing_reads (end (empty_book capacity) p.past) n j a r p.told in
      let s = counts n capacity p.past in
      subst (λ said. Counts n said j a r) (sym p.are) (record {
        all_judged = x.judged ∙ s.all_judged;
        all_accepted = x.accepted ∙ s.all_accepted;
        all_refused = x.refused ∙ s.all_refused;
      });
  withdrawn = λ n j a r before later e.
      let p = place before calls (empty_book capacity) (Withdraw n) (Receipt j a r) later e in
      let b : Book = end (empty_book capacity) p.past in
      let x = withdrawing_reads b n j a r p.told in
      let z = file_fresh b.files n (run_fresh p.past (empty_book capacity) tt) x.1 in
      (x.0.judged ∙ z.judged, x.0.accepted ∙ z.accepted, x.0.refused ∙ z.refused);
}
