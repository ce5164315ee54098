-- One step of the book that is held is one call more of its history.
use Rattle.measure.specs.declared.measure.Measure.{Ghosts}
use Rattle.std.proofs.Common.{◌≡◌, ℕ, cond, List, [], ◌∷◌, ◌++◌, ℤ, Some, None, Option, sym, refl, ap, ◌∙◌, subst}
use Rattle.text.specs.declared.words.Action.{Action}
use Rattle.text.specs.declared.words.Action.TheVariants.{New, Modify, Error, Cancel}
use Rattle.contract.specs.ContractList.{Told}
use Rattle.life.specs.Parts.{KeyParts, LifeParts}
use Rattle.life.specs.Keys.{same_key}
use Rattle.life.specs.Lives.{Lives, look, altered, Unique, Same}
use Rattle.life.proofs.Lives.{same_erase, look_altered_at, length_same}
use Rattle.std.specs.Option.{option_map}
use Rattle.measure.proofs.Sums.{total_same}
use Rattle.book.specs.Book.{Book, empty_book, Call, AddEntity, AddContract, NameFile, Identify, Withdraw, Close, Judge, LookUp, Answer, told_by, key_of, verdict, acted, done, undone, changed, after, granted, answered, answer}
use Rattle.book.specs.Laws.{Tidy}
use Rattle.book.proofs.Runs.{end_append}
use Rattle.book.proofs.Tidy.{tidy_law}
use Rattle.calls.specs.Follows.{book_after, Agrees, book_total, Follows}
use Rattle.calls.specs.Steps.{Step}

-- ---- Books that agree go on agreeing

same_altered : (k : KeyParts) (f : LifeParts → LifeParts) (ps qs : Lives) → Same ps qs → Same (altered k f ps) (altered k f qs)
same_altered k f ps qs h j =
    look_altered_at j k f ps
    ∙ ap (λ o. cond (same_key j k) (option_map f o) (look j ps)) (h k)
    ∙ ap (cond (same_key j k) (option_map f (look k qs))) (h j)
    ∙ sym (look_altered_at j k f qs)

same_acted : (a : Action) (k : KeyParts) (t q : ℕ) (p : Option ℤ) (ps qs : Lives) → Same ps qs → Same (acted a k t q p ps) (acted a k t q p qs)
same_acted New k t q p ps qs h j = rw (h j)
same_acted Modify k t q p ps qs h j = same_altered k _ ps qs h j
same_acted Error k t q p ps qs h j = same_erase k ps qs h j
same_acted Cancel k t q p ps qs h j = same_altered k _ ps qs h j

agreed_verdict : (c : Call) (b d : Book) → Agrees b d → verdict b c ≡ verdict d c
agreed_verdict (AddEntity bs) b d t = rw t.same_entities
agreed_verdict (AddContract bs) b d t = rw t.same_contracts
agreed_verdict (Identify n bs) b d t = rw (t.same_entities, t.same_files)
agreed_verdict (Withdraw n) b d t = rw t.same_files
agreed_verdict (Close n) b d t = rw t.same_files
agreed_verdict (Judge n bs) b d t = rw (t.same_files, t.same_contracts, t.same_lives (key_of (told_by d.contracts bs)), t.same_capacity, t.same_number)
agreed_verdict (LookUp bs) b d t = rw t.same_contracts
agreed_verdict _ b d t = refl

agreed_granted : (c : Call) (b d : Book) → Agrees b d → granted b c ≡ granted d c
agreed_granted (Withdraw n) b d t = rw t.same_files
agreed_granted (Close n) b d t = rw t.same_files
agreed_granted (LookUp bs) b d t = rw (t.same_contracts, t.same_lives (key_of (told_by d.contracts bs)))
agreed_granted _ b d t = refl

-- what two books are that agree in all but their number of lives and their capacity
record Alongside (b d : Book) : Type 0 where
  entities_so : b.entities ≡ d.entities
  contracts_so : b.contracts ≡ d.contracts
  files_so : b.files ≡ d.files
  lives_so : Same b.lives d.lives

still : (b d : Book) → Agrees b d → Alongside b d
still b d t = record { entities_so = t.same_entities; contracts_so = t.same_contracts; files_so = t.same_files; lives_so = t.same_lives }

agreed_done : (c : Call) (b d : Book) → Agrees b d → Alongside (done b c) (done d c)
agreed_done (AddEntity bs) b d t = record { entities_so = rw t.same_entities; contracts_so = t.same_contracts; files_so = t.same_files; lives_so = t.same_lives }
agreed_done (AddContract bs) b d t = record { entities_so = t.same_entities; contracts_so = rw t.same_contracts; files_so = t.same_files; lives_so = t.same_lives }
agreed_done (NameFile bs) b d t = record { entities_so = t.same_entities; contracts_so = t.same_contracts; files_so = rw t.same_files; lives_so = t.same_lives }
agreed_done (Identify n bs) b d t = record { entities_so = t.same_entities; contracts_so = t.same_contracts; files_so = rw t.same_files; lives_so = t.same_lives }
agreed_done (Withdraw n) b d t = record { entities_so = t.same_entities; contracts_so = t.same_contracts; files_so = rw t.same_files; lives_so = t.same_lives }
agreed_done (Close n) b d t = record { entities_so = t.same_entities; contracts_so = t.same_contracts; files_so = rw t.same_files; lives_so = t.same_lives }
agreed_done (Judge n bs) b d t = record {
  entities_so = t.same_entities;
  contracts_so = t.same_contracts;
  files_so = rw t.same_files;
  lives_so =
      let x : Told = told_by b.contracts bs in
      let y : Told = told_by d.contracts bs in
      let e : x ≡ y = ap (λ cs. told_by cs bs) t.same_contracts in
      λ j. same_acted x.says.action (key_of x) x.says.time x.says.quantity x.says.price b.lives d.lives t.same_lives j
      ∙ ap (λ z. look j (acted z.says.action (key_of z) z.says.time z.says.quantity z.says.price d.lives)) e;
}
agreed_done _ b d t = still b d t

agreed_undone : (c : Call) (b d : Book) → Agrees b d → Alongside (undone b c) (undone d c)
agreed_undone (Judge n bs) b d t = record { entities_so = t.same_entities; contracts_so = t.same_contracts; files_so = rw t.same_files; lives_so = t.same_lives }
agreed_undone _ b d t = still b d t

agreed_after : (c : Call) (b d : Book) → Agrees b d → Alongside (after b c) (after d c)
agreed_after c b d t = subst (λ v. Alongside (after b c) (changed d c v)) (agreed_verdict c b d t) (by (verdict b c))
  where
    by : (v : Option (ℕ × ℕ)) → Alongside (changed b c v) (changed d c v)
    by None = agreed_done c b d t
    by (Some r) = agreed_undone c b d t

pub agreed_answer : (c : Call) (b d : Book) → Agrees b d → answer b c ≡ answer d c
agreed_answer c b d t = by (verdict b c) ∙ ap (answered d c) (agreed_verdict c b d t)
  where
    by : (v : Option (ℕ × ℕ)) → answered b c v ≡ answered d c v
    by None = agreed_granted c b d t
    by (Some r) = refl

-- ---- One call more

module _ {V : Type 0} (weighing : Ghosts V) where
  -- the total of what is held is the book's
  pub held_total : (here book : Book) → Unique here.lives → Unique book.lives → Agrees here book → book_total weighing here ≡ book_total weighing book
  held_total here book u w t = total_same weighing.laws weighing.weight here.lives book.lives u w t.same_lives

  pub more : (capacity : ℕ) (past : List Call) (c : Call) (was is : Book) (old new : V) (a : Answer) → Unique was.lives → Unique is.lives →
      Step weighing was old c a is new → Follows weighing capacity past was old →
      (a ≡ answer (book_after capacity past) c) × Follows weighing capacity (past ++ c ∷ []) is new
  more capacity past c was is old new a u w s f =
      let book : Book = book_after capacity past in
      let tidy : Tidy capacity book = tidy_law capacity past in
      let sound : old ≡ book_total weighing was = f.sums ∙ sym (held_total was book u tidy.no_key_twice f.holds) in
      let next : book_after capacity (past ++ c ∷ []) ≡ after book c = end_append past (c ∷ []) (empty_book capacity) in
      let along : Alongside (after was c) (after book c) = agreed_after c was book f.holds in
      let then-tidy : Tidy capacity (book_after capacity (past ++ c ∷ [])) = tidy_law capacity (past ++ c ∷ []) in
      let lives : Same is.lives (book_after capacity (past ++ c ∷ [])).lives = λ j. s.makes_lives j ∙ along.lives_so j ∙ ap (λ b. look j b.lives) (sym next) in
      let agrees : Agrees is (book_after capacity (past ++ c ∷ [])) = record {
        same_capacity = s.keeps_capacity ∙ f.holds.same_capacity ∙ tidy.as_made ∙ sym then-tidy.as_made;
        same_entities = s.makes_entities ∙ along.entities_so ∙ ap (λ b. b.entities) (sym next);
        same_contracts = s.makes_contracts ∙ along.contracts_so ∙ ap (λ b. b.contracts) (sym next);
        same_files = s.makes_files ∙ along.files_so ∙ ap (λ b. b.files) (sym next);
        same_lives = lives;
        same_number = length_same is.lives (book_after capacity (past ++ c ∷ [])).lives w then-tidy.no_key_twice lives;
      } in (
        s.says ∙ agreed_answer c was book f.holds,
        record { holds = agrees; sums = s.keeps_sum sound ∙ held_total is (book_after capacity (past ++ c ∷ [])) w then-tidy.no_key_twice agrees },
      )
