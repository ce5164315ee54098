-- Laws over whole runs of the book.
use Rattle.std.specs.Prelude.{◌≡◌, ℕ, ◌+◌, ◌≤◌, Bool, true, false, cond, ◌&&◌, ◌||◌, ◌↔◌, List, []}
use Rattle.std.specs.Prelude.{◌∷◌, ◌++◌, length, map, ℤ, Some, None, Option}
use Rattle.std.specs.List.{AllZip, AllByRecursion, IsDistinct}
use Rattle.std.specs.Str.{bytes_eq}
use Rattle.text.specs.declared.words.Action.{Action}
use Rattle.text.specs.declared.words.Action.TheVariants.{New, Modify, Cancel}
use Rattle.line.specs.Lines.{Reported}
use Rattle.contract.specs.ContractList.{Contract, contract_limit, name_limit, names_in}
use Rattle.filing.specs.Entities.{entity_limit}
use Rattle.filing.specs.Files.{File, judged_limit}
use Rattle.life.specs.declared.life.State.{State}
use Rattle.life.specs.declared.life.State.TheVariants.{Open, Cancelled}
use Rattle.life.specs.Limits.{quantity_limit}
use Rattle.life.specs.Parts.{KeyParts, LifeParts}
use Rattle.life.specs.Keys.{same_key}
use Rattle.life.specs.Lives.{Pair, look, Unique}
use Rattle.life.specs.Rules.{is_error, is_cancel}
use Rattle.book.specs.Book.{Book, empty_book, Call, Judge, told_by, key_of, verdict, after, end}

-- ---- The log

-- a judged line: its key, and what it says; every other call judges none
pub data Subject : Type 0 where
  a_line : KeyParts → Reported → Subject
  no_line : Subject

abbrev pub subject : List Contract → Call → Subject
subject cs (Judge n bs) = a_line (key_of (told_by cs bs)) (told_by cs bs).says
subject cs _ = no_line

-- a call, the line that it judged, and the row that refused it, if one did
pub record Entry : Type 0 where
  pub of_call : Call
  pub judging : Subject
  pub refused_by : Option (ℕ × ℕ)

abbrev pub entry : Book → Call → Option (ℕ × ℕ) → Entry
entry b c v = record { of_call = c; judging = subject b.contracts c; refused_by = v }

abbrev pub log : Book → List Call → List Entry
log b [] = []
log b (c ∷ cs) = entry b c (verdict b c) ∷ log (after b c) cs

-- ---- The calls that count

-- an accepted Error of the key
abbrev pub strikes : KeyParts → Subject → Option (ℕ × ℕ) → Bool
strikes k (a_line q r) None = is_error r.action && same_key q k
strikes k _ _ = false

-- an Error takes the life of the key out, somewhere in the log
abbrev pub struck : KeyParts → List Entry → Bool
struck k [] = false
struck k (e ∷ es) = strikes k e.judging e.refused_by || struck k es

-- a line is left out if it was refused, or if an Error ends its life: `es` is the log from this line on
abbrev pub left_out : List Entry → Subject → Option (ℕ × ℕ) → Bool
left_out es no_line v = false
left_out es (a_line k r) (Some n) = true
left_out es (a_line k r) None = struck k es

-- the calls of a log that are not left out
abbrev pub survivors : List Entry → List Call
survivors [] = []
survivors (e ∷ es) = cond (left_out (e ∷ es) e.judging e.refused_by) (survivors es) (e.of_call ∷ survivors es)

-- ---- The survivors law

-- no judged line is refused
abbrev pub Taken : Subject → Option (ℕ × ℕ) → Type 0
Taken no_line v = Unit {0}
Taken (a_line k r) v = v ≡ None

abbrev pub EveryLineAccepted : List Entry → Type 0
EveryLineAccepted es = AllByRecursion (λ e. Taken e.judging e.refused_by) es

-- the second file is where the first is, and has no more lines
pub record FewerLines (f g : File) : Type 0 where
  pub same_stage : g.stage ≡ f.stage
  pub same_entity : g.entity ≡ f.entity
  pub no_more : g.judged ≤ f.judged

-- the second book holds what the first holds, and its files are where the first's are
pub record Alike (b b' : Book) : Type 0 where
  pub same_entities : b'.entities ≡ b.entities
  pub same_contracts : b'.contracts ≡ b.contracts
  pub like_files : AllZip FewerLines b.files b'.files
  pub same_lives : b'.lives ≡ b.lives

-- the survivors of a run, by themselves: every line left is accepted, and they end in the same lives
abbrev pub SurvivorsLaw : Type 0
SurvivorsLaw = (capacity : ℕ) (calls : List Call) →
    let left = survivors (log (empty_book capacity) calls) in
    EveryLineAccepted (log (empty_book capacity) left) × Alike (end (empty_book capacity) calls) (end (empty_book capacity) left)

-- ---- What the accepted lines of a key say of its life

-- an accepted line of a key: its action, time, quantity and price
pub data Deed : Type 0 where
  Did : Action → ℕ → ℕ → Option ℤ → Deed

-- what one call of a log adds to the accepted lines of the key that came after it
abbrev pub deed : KeyParts → Subject → Option (ℕ × ℕ) → List Deed → List Deed
deed k (a_line q r) None ds = cond (same_key q k) (Did r.action r.time r.quantity r.price ∷ ds) ds
deed k _ _ ds = ds

-- the accepted lines of the key in a log, in their order
abbrev pub deeds : KeyParts → List Entry → List Deed
deeds k [] = []
deeds k (e ∷ es) = deed k e.judging e.refused_by (deeds k es)

-- a line that neither enters a life nor takes it out
abbrev pub GoesOn : Deed → Type 0
GoesOn (Did Modify t q p) = Unit {0}
GoesOn (Did Cancel t q p) = Unit {0}
GoesOn _ = ⊥

-- a Cancel is among the lines
abbrev pub some_cancel : List Deed → Bool
some_cancel [] = false
some_cancel (Did a t q p ∷ ds) = is_cancel a || some_cancel ds

abbrev pub state_since : List Deed → State
state_since ds = cond (some_cancel ds) Cancelled Open

-- the time of the last line, or `t` where there is none
abbrev pub last_time : ℕ → List Deed → ℕ
last_time t [] = t
last_time t (Did a u q p ∷ ds) = last_time u ds

-- the quantity of the last line that is no Cancel, or `x` where there is none
abbrev pub last_quantity : ℕ → List Deed → ℕ
last_quantity x [] = x
last_quantity x (Did a t q p ∷ ds) = last_quantity (cond (is_cancel a) x q) ds

-- and its price
abbrev pub last_price : Option ℤ → List Deed → Option ℤ
last_price x [] = x
last_price x (Did a t q p ∷ ds) = last_price (cond (is_cancel a) x p) ds

-- the accepted lines of a key tell of this life: they end in a New with no New or Error after it; it is cancelled where a Cancel came since,
-- its time is that of the last line, and its quantity and price are those of the last New or Modify
pub record Tells (ds : List Deed) (life : LifeParts) : Type 0 where
  pub before : List Deed
  pub new_time : ℕ
  pub new_quantity : ℕ
  pub new_price : Option ℤ
  pub since : List Deed
  pub parts : ds ≡ before ++ Did New new_time new_quantity new_price ∷ since
  pub goes_on : AllByRecursion GoesOn since
  pub its_state : life.in_state ≡ state_since since
  pub its_time : life.at_time ≡ last_time new_time since
  pub its_quantity : life.with_quantity ≡ last_quantity new_quantity since
  pub its_price : life.with_price ≡ last_price new_price since

-- a key has a life exactly when its accepted lines tell of that life
abbrev pub LifeLaw : Type 0
LifeLaw = (capacity : ℕ) (calls : List Call) (k : KeyParts) (life : LifeParts) →
    (look k (end (empty_book capacity) calls).lives ≡ Some life) ↔ Tells (deeds k (log (empty_book capacity) calls)) life

-- ---- What every run keeps

-- judged lines are accepted or refused, and at most 1,000,000
pub record TidyFile (f : File) : Type 0 where
  pub all_counted : f.judged ≡ f.accepted + f.refused
  pub within : f.judged ≤ judged_limit

-- a contract number of at most 63, and a quantity of at most 10,000,000 units
pub record TidyLife (p : Pair) : Type 0 where
  pub numbered_within : p.0.of_contract ≤ contract_limit
  pub quantity_within : p.1.with_quantity ≤ quantity_limit

-- the capacity is that of the start; no key twice, no more lives than the capacity, each life and
-- each file tidy; no more entities, contracts and index names of all contracts together than may be
-- listed; no entity twice, and no contract id
pub record Tidy (capacity : ℕ) (b : Book) : Type 0 where
  pub as_made : b.capacity ≡ capacity
  pub no_key_twice : Unique b.lives
  pub lives_within : length b.lives ≤ capacity
  pub each_life : AllByRecursion TidyLife b.lives
  pub each_file : AllByRecursion TidyFile b.files
  pub entities_within : length b.entities ≤ entity_limit
  pub contracts_within : length b.contracts ≤ contract_limit
  pub names_within : names_in b.contracts ≤ name_limit
  pub no_entity_twice : IsDistinct bytes_eq b.entities
  pub no_id_twice : IsDistinct bytes_eq (map (λ c. c.contract_id) b.contracts)

abbrev pub TidyLaw : Type 0
TidyLaw = (capacity : ℕ) (calls : List Call) → Tidy capacity (end (empty_book capacity) calls)
