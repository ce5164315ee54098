-- What the log of a run tells of lives, call by call.
use Rattle.std.specs.Prelude.{◌≡◌, ℕ, Bool, true, false, cond, ◌&&◌, ◌||◌, List, [], ◌∷◌, map, drop, Some, None, Option, nat_le}
use Rattle.std.specs.BTreeMap.{BTreeMap, get}
use Rattle.std.specs.Option.{option_map_or}
use Rattle.life.specs.declared.key.Key.{Key}
use Rattle.life.specs.contracts.key.KeyOrd.TheImpl as key_ord
use Rattle.life.specs.Parts.{KeyParts, key_parts}
use Rattle.life.specs.Keys.{same_key}
use Rattle.life.specs.Rules.{is_error}
use Rattle.contract.specs.ContractList.{Contract}
use Rattle.book.specs.Book.{Book, Call, verdict, after}
use Rattle.book.specs.Laws.{Subject, a_line, no_line, subject, Entry}
use Rattle.resends.specs.declared.mark.Mark.{Mark}
use Rattle.resends.specs.declared.mark.Mark.TheVariants.{NoLine, Refused, Accepted}

-- a call judged no line; or one that was refused; or one of this key that was accepted, and whether it was an Error
pub data MarkParts : Type 0 where
  NoReportLine RefusedLine : MarkParts
  LineOf : KeyParts → Bool → MarkParts

abbrev pub mark_parts : Mark → MarkParts
mark_parts NoLine = NoReportLine
mark_parts Refused = RefusedLine
mark_parts (Accepted key action) = LineOf (key_parts key) (is_error action)

abbrev pub marks_in : List Mark → List MarkParts
marks_in = map mark_parts

-- the mark of a judged line by the row that refused it, if one did
abbrev pub marked : Subject → Option (ℕ × ℕ) → MarkParts
marked no_line v = NoReportLine
marked (a_line k r) (Some n) = RefusedLine
marked (a_line k r) None = LineOf k (is_error r.action)

abbrev pub marks_of : List Entry → List MarkParts
marks_of = map (λ e. marked e.judging e.refused_by)

-- an accepted Error of the key
abbrev pub strikes_at : KeyParts → MarkParts → Bool
strikes_at k (LineOf q error) = error && same_key q k
strikes_at k _ = false

-- an Error takes the life of the key out, somewhere in the marks
abbrev pub struck_in : KeyParts → List MarkParts → Bool
struck_in k [] = false
struck_in k (m ∷ ms) = strikes_at k m || struck_in k ms

-- whether a call is left out: `ms` are the marks from its own on
abbrev pub leaves_out : List MarkParts → MarkParts → Bool
leaves_out ms NoReportLine = false
leaves_out ms RefusedLine = true
leaves_out ms (LineOf k error) = struck_in k ms

-- the calls that are not left out
abbrev pub kept_calls : List Call → List MarkParts → List Call
kept_calls (c ∷ cs) (m ∷ ms) = cond (leaves_out (m ∷ ms) m) (kept_calls cs ms) (c ∷ kept_calls cs ms)
kept_calls _ _ = []

-- ---- Where the last Errors stand

-- the map has at each key the place of its last accepted Error: there is one at a place or later exactly where the map's is
abbrev pub LastErrors : List MarkParts → BTreeMap Key ℕ → Type 0
LastErrors ms last = (k : Key) (from : ℕ) → struck_in (key_parts k) (drop from ms) ≡ option_map_or (nat_le from) (get key_ord.ghosts.cmp last k) false

-- ---- The mark of one call

-- the mark of a call on a book
abbrev pub mark_in : Book → Call → MarkParts
mark_in b c = marked (subject b.contracts c) (verdict b c)

-- a call on a book has this mark, and leaves these contracts listed
pub record MarksCall (b : Book) (c : Call) (m : MarkParts) (listed : List Contract) : Type 0 where
  pub marks : m ≡ mark_in b c
  pub lists : listed ≡ (after b c).contracts
