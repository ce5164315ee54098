-- The marks of a run, taken call by call.
use Rattle.std.proofs.Common.{◌≡◌, List, [], ◌∷◌, ◌++◌, sym, refl, ap, ◌∙◌, append-nil}
use Rattle.contract.specs.ContractList.{Contract}
use Rattle.book.specs.Book.{Book, Call, after, answer, answers}
use Rattle.book.specs.Laws.{log}
use Rattle.calls.specs.declared.call.Call.{Call as Asked}
use Rattle.calls.specs.Said.{Spoken, call_said, calls_said, answer_said, answers_said}
use Rattle.resends.specs.Marks.{MarkParts, marks_of, MarksCall}

-- the calls before those left led from one book to another; these are its answers still to come, its contracts and the marks so far
pub record SoFar (start : Book) (calls : List Call) (left : List Asked) (said : List Spoken) (listed : List Contract) (marks : List MarkParts) : Type 0 where
  pub book : Book
  pub lists : book.contracts ≡ listed
  pub answered : answers_said said ≡ answers book (calls_said left)
  pub logged : marks ++ marks_of (log book (calls_said left)) ≡ marks_of (log start calls)

pub at_first : (start : Book) (calls left : List Asked) (said others : List Spoken) (listed : List Contract) (marks : List MarkParts) →
    start.contracts ≡ listed → left ≡ calls → others ≡ said → marks ≡ [] → answers_said said ≡ answers start (calls_said calls) →
    SoFar start (calls_said calls) left others listed marks
at_first start calls left said others listed marks c l o m e = record {
  book = start;
  lists = c;
  answered = ap answers_said o ∙ e ∙ ap (λ cs. answers start (calls_said cs)) (sym l);
  logged = λ i. m i ++ marks_of (log start (calls_said (l i)));
}

then_one : (xs ys : List MarkParts) (m : MarkParts) → (xs ++ m ∷ []) ++ ys ≡ xs ++ m ∷ ys
then_one [] ys m = refl
then_one (x ∷ xs) ys m = ap (λ zs. x ∷ zs) (then_one xs ys m)

module _ (start : Book) (calls : List Call) (left later : List Asked) (said others : List Spoken) (listed next : List Contract) (marks : List MarkParts) (c : Asked) (a : Spoken) (m : MarkParts) where
  -- one call more
  pub one_more : left ≡ c ∷ later → said ≡ a ∷ others → SoFar start calls left said listed marks →
      ((b : Book) → b.contracts ≡ listed → answer_said a ≡ answer b (call_said c) → MarksCall b (call_said c) m next) →
      SoFar start calls later others next (marks ++ m ∷ [])
  one_more l o s f =
      let told : answer_said a ∷ answers_said others ≡ answers s.book (call_said c ∷ calls_said later) = ap answers_said (sym o) ∙ s.answered ∙ ap (λ cs. answers s.book (calls_said cs)) l in
      let marked = f s.book s.lists cc in
      record {
        book = after s.book (call_said c);
        lists = sym marked.lists;
        answered = cc;
        logged =
            then_one marks _ m
            ∙ ap (λ x. marks ++ x ∷ marks_of (log (after s.book (call_said c)) (calls_said later))) marked.marks
            ∙ ap (λ cs. marks ++ marks_of (log s.book (calls_said cs))) (sym l) ∙ s.logged;
      }

no_call : (b : Book) (left : List Asked) → [] ≡ answers b (calls_said left) → left ≡ []
no_call b [] e = refl
no_call b (c ∷ cs) e = cc

module _ (start : Book) (calls : List Call) (listed : List Contract) (marks : List MarkParts) (left : List Asked) (said : List Spoken) (s : SoFar start calls left said listed marks) where
  -- no call is left
  pub all_marked : left ≡ [] → marks ≡ marks_of (log start calls)
  all_marked e = sym (append-nil marks) ∙ ap (λ l. marks ++ marks_of (log s.book (calls_said l))) (sym e) ∙ s.logged

  -- or no answer
  pub all_answered : said ≡ [] → marks ≡ marks_of (log start calls)
  all_answered e = all_marked (no_call s.book left (ap answers_said (sym e) ∙ s.answered))
