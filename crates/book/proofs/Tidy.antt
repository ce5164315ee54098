-- Every run keeps the book tidy.
use Rattle.std.proofs.Common.{◌≡◌, ℕ, zero, suc, ◌+◌, ◌<◌, ◌≤◌, Bool, true, false, cond, ◌&&◌, ◌||◌}
use Rattle.std.proofs.Common.{leb, ltb, List, [], ◌∷◌, ◌++◌, length, map, set, ℤ, is_some, Some}
use Rattle.std.proofs.Common.{None, Option, sym, refl, ap, ◌∙◌, subst, arith, length-append}
use Rattle.std.specs.List.{AllByRecursion, IsDistinct, list_any}
use Rattle.std.specs.Str.{bytes_eq}
use Rattle.std.proofs.ByRecursion.{All-set, All-push}
use Rattle.std.proofs.lemmas.Bool.{leb-true, leb-false, ltb-false, not-false, or_parts, cond_both}
use Rattle.std.proofs.lemmas.Cmp.{nat_list_eq_equiv}
use Rattle.std.proofs.lemmas.List.{map-append}
use Rattle.std.proofs.lemmas.List.Sums.{sum_by_push}
use Rattle.std.proofs.lemmas.Map.Keys.{IsDistinct-push}
use Rattle.text.specs.declared.words.Action.{Action}
use Rattle.text.specs.declared.words.Action.TheVariants.{New, Modify, Error, Cancel}
use Rattle.text.specs.Bytes.{Bytes, among, pieces, value, then}
use Rattle.text.specs.Forms.{at_most, decimal_of, decimal_form, quantity_form}
use Rattle.text.specs.Rows.{first_fit}
use Rattle.contract.specs.ContractList.{Contract, contract_limit, name_limit, names_in, numbered}
use Rattle.contract.specs.ContractList.{listed, number_of, contract_number, bilateral, listing_rows}
use Rattle.contract.specs.ContractList.{text_rows, offered}
use Rattle.filing.specs.Entities.{entity_limit, entity_rows}
use Rattle.filing.specs.Files.{Stage, Identified, Ended, File, named_file, at_stage, identified, judged_limit, taking_rows, one_accepted, one_refused}
use Rattle.life.specs.Parts.{KeyParts, LifeParts}
use Rattle.life.specs.Keys.{same_key}
use Rattle.life.specs.Lives.{Lives, look, altered, erase, Unique}
use Rattle.life.specs.Rules.{life_rows, standing, is_new, new_life, modified, cancelled}
use Rattle.life.proofs.Lives.{unique_from, unique_erase, unique_altered, length_altered, length_erase}
use Rattle.book.specs.Book.{Book, empty_book, with_files, with_lives, file_of, put_file, Call, AddEntity, AddContract, NameFile, Identify, Withdraw, Close, Judge, told_by, key_of, wanted, asked, verdict, acted, refused_in, changed, after, end}
use Rattle.book.specs.Laws.{TidyFile, TidyLife, Tidy, TidyLaw}
use Rattle.book.proofs.Tables.{or_none, none_fits, Passed, passed, contract_parts, room_rows}

-- ---- Numbers within their limits

at_most_within : (limit : ℕ) (o : Option ℕ) → value 0 (then o (at_most limit)) ≤ limit
at_most_within limit None = omega arith
at_most_within limit (Some n) = go (leb n limit) refl
  where
    go : (t : Bool) → leb n limit ≡ t → value 0 (cond t (Some n) None) ≤ limit
    go true e = leb-true n limit e
    go false e = omega arith

pub quantity_within : (t : Bytes) → value 0 (quantity_form t) ≤ 1_000_000_000_000
unfolding decimal_form
quantity_within t = at_most_within 1_000_000_000_000 (decimal_of 8 (pieces 46 t))

numbered_within : (n : ℕ) (cs : List Contract) (t : Bytes) → number_of (numbered (suc n) cs t) ≤ n + length cs
numbered_within n [] t = omega arith
numbered_within n (c ∷ cs) t =
    let ih = numbered_within (suc n) cs t in
    cond_both _ (Some (suc n, c)) (numbered (suc (suc n)) cs t) (λ o. number_of o ≤ n + suc (length cs)) (λ _. omega arith) (λ _. omega arith)

pub contract_within : (cs : List Contract) (bs : Bytes) → length cs ≤ contract_limit → contract_number (told_by cs bs) ≤ contract_limit
contract_within cs bs h =
    let w = numbered_within 0 cs (told_by cs bs).says.contract in
    cond_both (bilateral (told_by cs bs).says) 0 (number_of (told_by cs bs).under) (λ n. n ≤ contract_limit) (λ _. omega arith) (λ _. omega (arith, w, h))

-- ---- Files

pub file_takes : (f : File) → first_fit taking_rows f ≡ None → (identified f.stage ≡ true) × (f.judged < judged_limit)
file_takes f e =
    let h = none_fits taking_rows f e in
    (not-false (identified f.stage) h.0, leb-false judged_limit f.judged h.1.0)

accepted_tidy : (f : File) → first_fit taking_rows f ≡ None → TidyFile f → TidyFile (one_accepted f)
accepted_tidy f e h =
    let w = (file_takes f e).1 in
    record { all_counted = omega (arith, h.all_counted); within = w }

refused_tidy : (f : File) → TidyFile f → TidyFile (refused_in f)
refused_tidy f h = go (first_fit taking_rows f) refl
  where
    go : (o : Option (ℕ × ℕ)) → first_fit taking_rows f ≡ o → TidyFile (cond (is_some o) f (one_refused f))
    go (Some r) e = h
    go None e = let w = (file_takes f e).1 in record { all_counted = omega (arith, h.all_counted); within = w }

staged_tidy : (s : Stage) (f : File) → TidyFile f → TidyFile (at_stage s f)
staged_tidy s f h = record { all_counted = h.all_counted; within = h.within }

named_tidy : (code : Bytes) → TidyFile (named_file code)
named_tidy code = record { all_counted = refl; within = omega arith }

file_tidy : (fs : List File) (n : ℕ) → AllByRecursion TidyFile fs → TidyFile (file_of fs n)
file_tidy [] n h = staged_tidy Ended (named_file []) (named_tidy [])
file_tidy (f ∷ fs) zero h = h.0
file_tidy (f ∷ fs) (suc n) h = file_tidy fs n h.1

-- ---- Lives

-- an accepted New has room, and its key has no life
abbrev Room : Action → KeyParts → ℕ → Lives → Type 0
Room New k capacity ls = (look k ls ≡ None) × (length ls < capacity)
Room Modify k capacity ls = Unit {0}
Room Error k capacity ls = Unit {0}
Room Cancel k capacity ls = Unit {0}

not_standing : (o : Option LifeParts) → standing o ≡ false → o ≡ None
not_standing None e = refl
not_standing (Some x) e = let z : ◌≡◌ {A = Bool} true false = e in absurd (grind (arith, z))

room : (b : Book) (n : ℕ) (bs : Bytes) → Passed b n bs → Room (told_by b.contracts bs).says.action (key_of (told_by b.contracts bs)) b.capacity b.lives
room b n bs p = by (told_by b.contracts bs).says.action
    (none_fits life_rows (wanted b.lives (told_by b.contracts bs)) p.lives_on).0
    (none_fits room_rows (asked b n bs) p.has_room).0
  where
    k : KeyParts
    k = key_of (told_by b.contracts bs)

    by : (a : Action) → (is_new a && standing (look k b.lives)) ≡ false → (is_new a && leb b.capacity (length b.lives)) ≡ false → Room a k b.capacity b.lives
    by New h g = (not_standing _ h, leb-false _ _ g)
    by Modify h g = tt
    by Error h g = tt
    by Cancel h g = tt

all_altered : (k : KeyParts) (f : LifeParts → LifeParts) → ((q : KeyParts) (l : LifeParts) → TidyLife (q, l) → TidyLife (q, f l)) → (ls : Lives) → AllByRecursion TidyLife ls → AllByRecursion TidyLife (altered k f ls)
all_altered k f g [] h = tt
all_altered k f g (p ∷ ls) h =
    (cond_both (same_key k p.0) (f p.1) p.1 (λ l. TidyLife (p.0, l)) (λ _. g p.0 p.1 h.0) (λ _. h.0), all_altered k f g ls h.1)

all_erase : (k : KeyParts) (ls : Lives) → AllByRecursion TidyLife ls → AllByRecursion TidyLife (erase k ls)
all_erase k [] h = tt
all_erase k (p ∷ ls) h =
    cond_both (same_key k p.0) (erase k ls) (p ∷ erase k ls) (λ qs. AllByRecursion TidyLife qs) (λ _. all_erase k ls h.1) (λ _. (h.0, all_erase k ls h.1))

record TidyLives (capacity : ℕ) (ls : Lives) : Type 0 where
  apart : Unique ls
  few : length ls ≤ capacity
  each : AllByRecursion TidyLife ls

acted_tidy : (a : Action) (k : KeyParts) (t q : ℕ) (p : Option ℤ) (capacity : ℕ) (ls : Lives) → k.of_contract ≤ contract_limit → q ≤ 1_000_000_000_000 → Room a k capacity ls → TidyLives capacity ls → TidyLives capacity (acted a k t q p ls)
acted_tidy New k t q p capacity ls c w r s = record {
  apart = unique_from (k, new_life t q p) ls r.0 s.apart;
  few = r.1;
  each = (record { numbered_within = c; quantity_within = w }, s.each);
}
acted_tidy Modify k t q p capacity ls c w r s = record {
  apart = unique_altered k _ ls s.apart;
  few = rw (length_altered k (modified t q p) ls) s.few;
  each = all_altered k _ (λ j l h. record { numbered_within = h.numbered_within; quantity_within = w }) ls s.each;
}
acted_tidy Error k t q p capacity ls c w r s = record {
  apart = unique_erase k ls s.apart;
  few = omega (arith, length_erase k ls, s.few);
  each = all_erase k ls s.each;
}
acted_tidy Cancel k t q p capacity ls c w r s = record {
  apart = unique_altered k _ ls s.apart;
  few = rw (length_altered k (cancelled t) ls) s.few;
  each = all_altered k _ (λ j l h. record { numbered_within = h.numbered_within; quantity_within = h.quantity_within }) ls s.each;
}

-- ---- Lists without repeats

none_twice : IsDistinct bytes_eq []
unfolding IsDistinct
none_twice = tt

any_among : (ts : List Bytes) (t : Bytes) → list_any (bytes_eq t) ts ≡ among ts t
any_among [] t = refl
any_among (u ∷ us) t = ap (λ b. bytes_eq t u || b) (any_among us t)

-- one text more, which does not stand in the list
distinct_push : (ts : List Bytes) (t : Bytes) → IsDistinct bytes_eq ts → among ts t ≡ false →
    IsDistinct bytes_eq (ts ++ t ∷ [])
distinct_push ts t d e = IsDistinct-push nat_list_eq_equiv ts t d (any_among ts t ∙ e)

abbrev ids : List Contract → List Bytes
ids cs = map (λ c. c.contract_id) cs

-- no contract has an id that is not listed
not_among : (n : ℕ) (cs : List Contract) (t : Bytes) → is_some (numbered n cs t) ≡ false →
    among (ids cs) t ≡ false
not_among n [] t e = refl
not_among n (c ∷ cs) t e = go (bytes_eq c.contract_id t) refl e (not_among (suc n) cs t)
  where
    go : (b : Bool) → bytes_eq c.contract_id t ≡ b →
        is_some (cond b (Some (n, c)) (numbered (suc n) cs t)) ≡ false →
        (is_some (numbered (suc n) cs t) ≡ false → among (ids cs) t ≡ false) →
        (bytes_eq t c.contract_id || among (ids cs) t) ≡ false
    go true f h more = let no : ◌≡◌ {A = Bool} true false = h in absurd (grind (arith, no))
    go false f h more =
        ap (λ b. b || among (ids cs) t) (nat_list_eq_equiv.symm t c.contract_id ∙ f) ∙ more h

ids_push : (cs : List Contract) (c : Contract) → IsDistinct bytes_eq (ids cs) →
    is_some (listed cs c.contract_id) ≡ false → IsDistinct bytes_eq (ids (cs ++ c ∷ []))
ids_push cs c d e =
    subst (λ ts. IsDistinct bytes_eq ts) (sym (map-append (λ c. c.contract_id) cs (c ∷ [])))
    (distinct_push (ids cs) c.contract_id d (not_among 1 cs c.contract_id e))

names_push : (cs : List Contract) (c : Contract) →
    ltb name_limit (names_in cs + length c.index_names) ≡ false →
    names_in (cs ++ c ∷ []) ≤ name_limit
names_push cs c e =
    let within : names_in cs + length c.index_names ≤ name_limit = ltb-false _ _ e in
    omega (arith, within, sum_by_push (λ (c : Contract). length c.index_names) cs c)

-- ---- A call, and a run

module _ (capacity : ℕ) where
  files_tidy : (b : Book) (fs : List File) → Tidy capacity b → AllByRecursion TidyFile fs → Tidy capacity (with_files b fs)
  files_tidy b fs s h = record {
    as_made = s.as_made;
    no_key_twice = s.no_key_twice;
    lives_within = s.lives_within;
    each_life = s.each_life;
    each_file = h;
    entities_within = s.entities_within;
    contracts_within = s.contracts_within;
    names_within = s.names_within;
    no_entity_twice = s.no_entity_twice;
    no_id_twice = s.no_id_twice;
  }

  lives_tidy : (b : Book) (ls : Lives) → Tidy capacity b → TidyLives capacity ls → Tidy capacity (with_lives b ls)
  lives_tidy b ls s h = record {
    as_made = s.as_made;
    no_key_twice = h.apart;
    lives_within = h.few;
    each_life = h.each;
    each_file = s.each_file;
    entities_within = s.entities_within;
    contracts_within = s.contracts_within;
    names_within = s.names_within;
    no_entity_twice = s.no_entity_twice;
    no_id_twice = s.no_id_twice;
  }

  put_tidy : (b : Book) (n : ℕ) (f : File) → Tidy capacity b → TidyFile f → Tidy capacity (put_file b n f)
  put_tidy b n f s h = files_tidy b (set b.files n f) s (All-set TidyFile b.files n f h s.each_file)

  line_tidy : (n : ℕ) (bs : Bytes) (b : Book) (v : Option (ℕ × ℕ)) → verdict b (Judge n bs) ≡ v → Tidy capacity b → Tidy capacity (changed b (Judge n bs) v)
  line_tidy n bs b (Some r) e s = put_tidy b n _ s (refused_tidy _ (file_tidy b.files n s.each_file))
  line_tidy n bs b None e s =
      let p = passed b n bs e in
      let x = told_by b.contracts bs in
      let ls = acted_tidy x.says.action (key_of x) x.says.time x.says.quantity x.says.price capacity b.lives
      (contract_within b.contracts bs s.contracts_within) (quantity_within _)
      (subst (λ m. Room x.says.action (key_of x) m b.lives) s.as_made (room b n bs p))
      (record { apart = s.no_key_twice; few = s.lives_within; each = s.each_life }) in
      put_tidy (with_lives b _) n _ (lives_tidy b _ s ls) (accepted_tidy _ p.takes (file_tidy b.files n s.each_file))

  entity_tidy : (bs : Bytes) (b : Book) (v : Option (ℕ × ℕ)) → verdict b (AddEntity bs) ≡ v → Tidy capacity b → Tidy capacity (changed b (AddEntity bs) v)
  entity_tidy bs b (Some r) e s = s
  entity_tidy bs b None e s =
      let rows = none_fits entity_rows (b.entities, bs) e in
      let w : length b.entities < entity_limit = leb-false _ _ rows.1.1.0 in
      record {
        as_made = s.as_made;
        no_key_twice = s.no_key_twice;
        lives_within = s.lives_within;
        each_life = s.each_life;
        each_file = s.each_file;
        entities_within = simp length-append (omega (arith, w));
        contracts_within = s.contracts_within;
        names_within = s.names_within;
        no_entity_twice = distinct_push b.entities bs s.no_entity_twice rows.1.0;
        no_id_twice = s.no_id_twice;
      }

  contract_tidy : (bs : Bytes) (b : Book) (v : Option (ℕ × ℕ)) → verdict b (AddContract bs) ≡ v → Tidy capacity b → Tidy capacity (changed b (AddContract bs) v)
  contract_tidy bs b (Some r) e s = s
  contract_tidy bs b None e s =
      let none = (or_none (first_fit text_rows bs) _ (sym (contract_parts b.contracts bs) ∙ e)).1 in
      let rows = none_fits listing_rows (b.contracts, offered bs) none in
      let room = or_parts _ _ rows.1.1.1.0 in
      let w : length b.contracts < contract_limit = leb-false _ _ room.0 in
      record {
        as_made = s.as_made;
        no_key_twice = s.no_key_twice;
        lives_within = s.lives_within;
        each_life = s.each_life;
        each_file = s.each_file;
        entities_within = s.entities_within;
        contracts_within = simp length-append (omega (arith, w));
        names_within = names_push b.contracts (offered bs) room.1;
        no_entity_twice = s.no_entity_twice;
        no_id_twice = ids_push b.contracts (offered bs) s.no_id_twice rows.0;
      }

  staging_tidy : (n : ℕ) (to : Stage) (b : Book) → Tidy capacity b → Tidy capacity (put_file b n (at_stage to (file_of b.files n)))
  staging_tidy n to b s = put_tidy b n _ s (staged_tidy to _ (file_tidy b.files n s.each_file))

  call_tidy : (c : Call) (b : Book) (v : Option (ℕ × ℕ)) → verdict b c ≡ v → Tidy capacity b → Tidy capacity (changed b c v)
  call_tidy (AddEntity bs) b v e s = entity_tidy bs b v e s
  call_tidy (AddContract bs) b v e s = contract_tidy bs b v e s
  call_tidy (NameFile bs) b None e s = files_tidy b _ s (All-push TidyFile b.files _ s.each_file (named_tidy _))
  call_tidy (Identify n bs) b None e s = staging_tidy n Identified b s
  call_tidy (Withdraw n) b None e s = staging_tidy n Ended b s
  call_tidy (Close n) b None e s = staging_tidy n Ended b s
  call_tidy (Judge n bs) b v e s = line_tidy n bs b v e s
  call_tidy _ b (Some r) e s = s
  call_tidy _ b None e s = s

  run_tidy : (cs : List Call) (b : Book) → Tidy capacity b → Tidy capacity (end b cs)
  run_tidy [] b s = s
  run_tidy (c ∷ cs) b s = run_tidy cs (after b c) (call_tidy c b (verdict b c) refl s)

pub tidy_law : TidyLaw
tidy_law capacity calls =
    run_tidy capacity calls (empty_book capacity)
    (record {
      as_made = refl;
      no_key_twice = refl;
      lives_within = omega arith;
      each_life = tt;
      each_file = tt;
      entities_within = omega arith;
      contracts_within = omega arith;
      names_within = omega arith;
      no_entity_twice = none_twice;
      no_id_twice = none_twice;
    })
