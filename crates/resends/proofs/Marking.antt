-- The calls that the marks of a run keep.
use Rattle.std.proofs.Common.{◌≡◌, ℕ, ◌+◌, Bool, true, false, cond, ◌||◌, List, [], ◌∷◌, map, drop, Some, None, Option, sym, refl, ap, ◌∙◌}
use Rattle.std.specs.List.{zip, enumerate_from, filter_map, cons_option}
use Rattle.std.proofs.lemmas.List.{drop-drop}
use Rattle.life.specs.Parts.{KeyParts}
use Rattle.book.specs.Book.{Book, Call, after}
use Rattle.book.specs.Laws.{Subject, a_line, no_line, Entry, log, strikes, struck, left_out, survivors}
use Rattle.calls.specs.declared.call.Call.{Call as Spoken}
use Rattle.calls.specs.Said.{call_said, calls_said}
use Rattle.resends.specs.declared.mark.Mark.{Mark}
use Rattle.resends.specs.Marks.{MarkParts, mark_parts, marks_in, marked, marks_of, strikes_at, struck_in, leaves_out, kept_calls}

-- ---- Marks tell what the log tells

struck_marked : (k : KeyParts) (es : List Entry) → struck_in k (marks_of es) ≡ struck k es
struck_marked k [] = refl
struck_marked k (e ∷ es) = by e.judging e.refused_by (struck_marked k es)
  where
    by : (s : Subject) (v : Option (ℕ × ℕ)) → struck_in k (marks_of es) ≡ struck k es → (strikes_at k (marked s v) || struck_in k (marks_of es)) ≡ (strikes k s v || struck k es)
    by no_line v h = h
    by (a_line q r) (Some n) h = h
    by (a_line q r) None h = ap (λ b. strikes k (a_line q r) None || b) h

left_marked : (es : List Entry) (s : Subject) (v : Option (ℕ × ℕ)) → leaves_out (marks_of es) (marked s v) ≡ left_out es s v
left_marked es no_line v = refl
left_marked es (a_line k r) (Some n) = refl
left_marked es (a_line k r) None = struck_marked k es

-- the calls that the marks keep are the survivors
pub kept_survivors : (es : List Entry) → kept_calls (map (λ e. e.of_call) es) (marks_of es) ≡ survivors es
kept_survivors [] = refl
kept_survivors (e ∷ es) =
    ap (λ b. cond b (kept_calls (map (λ x. x.of_call) es) (marks_of es)) (e.of_call ∷ kept_calls (map (λ x. x.of_call) es) (marks_of es))) (left_marked (e ∷ es) e.judging e.refused_by)
    ∙ ap (λ cs. cond (left_out (e ∷ es) e.judging e.refused_by) cs (e.of_call ∷ cs)) (kept_survivors es)

pub log_calls : (cs : List Call) (b : Book) → map (λ e. e.of_call) (log b cs) ≡ cs
log_calls [] b = refl
log_calls (c ∷ cs) b = ap (λ xs. c ∷ xs) (log_calls cs (after b c))

-- ---- Keeping calls

-- a call with its place and its mark, where all are the marks of the run
abbrev pub kept_at : List MarkParts → ℕ × (Spoken × Mark) → Option Spoken
kept_at all p = cond (leaves_out (drop p.0 all) (mark_parts p.1.1)) None (Some p.1.0)

kept_or_left : (c : Spoken) (b : Bool) (rest : List Spoken) (later : List Call) → calls_said rest ≡ later → calls_said (cons_option (cond b None (Some c)) rest) ≡ cond b later (call_said c ∷ later)
kept_or_left c true rest later e = e
kept_or_left c false rest later e = ap (λ xs. call_said c ∷ xs) e

-- the calls that are kept from a place on
kept_from : (all : List MarkParts) (cs : List Spoken) (ms : List Mark) (n : ℕ) → drop n all ≡ marks_in ms →
    calls_said (filter_map (kept_at all) (enumerate_from n (zip cs ms))) ≡ kept_calls (calls_said cs) (marks_in ms)
kept_from all [] ms n e = refl
kept_from all (c ∷ cs) [] n e = refl
kept_from all (c ∷ cs) (m ∷ ms) n e =
    kept_or_left c (leaves_out (drop n all) (mark_parts m)) _ _ (kept_from all cs ms (n + 1) (sym (drop-drop 1 n all) ∙ ap (drop 1) e))
    ∙ ap (λ xs. cond (leaves_out xs (mark_parts m)) (kept_calls (calls_said cs) (marks_in ms)) (call_said c ∷ kept_calls (calls_said cs) (marks_in ms))) e

pub kept_all : (cs : List Spoken) (ms : List Mark) → calls_said (filter_map (kept_at (marks_in ms)) (enumerate_from 0 (zip cs ms))) ≡ kept_calls (calls_said cs) (marks_in ms)
kept_all cs ms = kept_from (marks_in ms) cs ms 0 refl

-- what the marks of a run keep of its calls are the survivors
pub kept_of_run : (b : Book) (cs left : List Call) (ms : List MarkParts) → ms ≡ marks_of (log b cs) → left ≡ kept_calls cs ms → left ≡ survivors (log b cs)
kept_of_run b cs left ms e k = k ∙ (λ i. kept_calls (sym (log_calls cs b) i) (e i)) ∙ kept_survivors (log b cs)
