-- Tables of rows: the first fit in joined tables, and what holds where none fits.
use Rattle.std.proofs.Common.{◌≡◌, ℕ, Bool, true, false, cond, ◌&&◌, List, [], ◌∷◌, ◌++◌, Some, None, Option, sym, refl, ap, ◌∙◌, arith}
use Rattle.std.specs.List.{AllByRecursion}
use Rattle.text.specs.Bytes.{Bytes}
use Rattle.text.proofs.Tables.{or_else, fit_append, fit_looking}
use Rattle.text.specs.Rows.{Row, row, first_fit, looking_at}
use Rattle.line.specs.Lines.{line_rows}
use Rattle.contract.specs.ContractList.{Contract, offered, text_rows, listing_rows, contract_rows, Told, market_rows}
use Rattle.filing.specs.Files.{taking_rows}
use Rattle.life.specs.Rules.{is_new, life_rows}
use Rattle.book.specs.Book.{Book, Judge, LookUp, file_of, told_by, wanted, Asked, asked, verdict}

-- ---- Joined tables

pub or_none : {X : Type 0} (x y : Option X) → or_else x y ≡ None → (x ≡ None) × (y ≡ None)
or_none None y e = (refl, e)
or_none (Some x) y e = let z : ◌≡◌ {A = ℕ} 0 1 = cc in absurd (omega arith)

-- rows that look at a part, and then more rows
pub fit_parts : {X Y : Type 0} (part : Y → X) (rs : List (Row X)) (qs : List (Row Y)) (y : Y) →
    first_fit (looking_at part rs ++ qs) y ≡ or_else (first_fit rs (part y)) (first_fit qs y)
fit_parts part rs qs y = fit_append (looking_at part rs) qs y ∙ ap (λ o. or_else o (first_fit qs y)) (fit_looking part rs y)

passed_by : (t : Bool) (p : ℕ × ℕ) (o : Option (ℕ × ℕ)) → cond t (Some p) o ≡ None → (t ≡ false) × (o ≡ None)
passed_by true p o e = let z : ◌≡◌ {A = ℕ} 0 1 = cc in absurd (omega arith)
passed_by false p o e = (refl, e)

-- where none fits, each row's test fails
pub none_fits : {X : Type 0} (rs : List (Row X)) (x : X) → first_fit rs x ≡ None → AllByRecursion (λ r. r.fits x ≡ false) rs
none_fits [] x e = tt
none_fits (r ∷ rs) x e = let p = passed_by (r.fits x) _ _ e in (p.0, none_fits rs x p.1)

-- ---- The table of judging

-- the last row: a New where as many lives are held as there may be
abbrev pub room_rows : List (Row Asked)
room_rows = row 47 0 (λ x. is_new x.of_life.does && x.full) ∷ []

abbrev pub from_life : List (Row Asked)
from_life = looking_at (λ x. x.of_life) life_rows ++ room_rows

abbrev pub from_list : List (Row Asked)
from_list = looking_at (λ x. x.of_list) market_rows ++ from_life

abbrev pub from_line : List (Row Asked)
from_line = looking_at (λ x. x.line) line_rows ++ from_list

-- a line is refused by its file's rows, else by its own, else by those of its contract, else by those of its life, else for want of room
pub judging_parts : (b : Book) (n : ℕ) (bs : Bytes) →
    verdict b (Judge n bs)
    ≡ or_else (first_fit taking_rows (file_of b.files n))
    (or_else (first_fit line_rows bs)
    (or_else (first_fit market_rows (told_by b.contracts bs))
    (or_else (first_fit life_rows (wanted b.lives (told_by b.contracts bs))) (first_fit room_rows (asked b n bs)))))
judging_parts b n bs =
    fit_parts (λ y. y.in_file) taking_rows from_line (asked b n bs)
    ∙ ap (or_else (first_fit taking_rows (file_of b.files n)))
    (fit_parts (λ y. y.line) line_rows from_list (asked b n bs)
    ∙ ap (or_else (first_fit line_rows bs))
    (fit_parts (λ y. y.of_list) market_rows from_life (asked b n bs)
    ∙ ap (or_else (first_fit market_rows (told_by b.contracts bs))) (fit_parts (λ y. y.of_life) life_rows room_rows (asked b n bs))))

-- what an accepted line met
pub record Passed (b : Book) (n : ℕ) (bs : Bytes) : Type 0 where
  pub takes : first_fit taking_rows (file_of b.files n) ≡ None
  pub reads : first_fit line_rows bs ≡ None
  pub lists : first_fit market_rows (told_by b.contracts bs) ≡ None
  pub lives_on : first_fit life_rows (wanted b.lives (told_by b.contracts bs)) ≡ None
  pub has_room : first_fit room_rows (asked b n bs) ≡ None

pub passed : (b : Book) (n : ℕ) (bs : Bytes) → verdict b (Judge n bs) ≡ None → Passed b n bs
passed b n bs e =
    let f = or_none (first_fit taking_rows (file_of b.files n)) _ (sym (judging_parts b n bs) ∙ e) in
    let l = or_none (first_fit line_rows bs) _ f.1 in
    let m = or_none (first_fit market_rows (told_by b.contracts bs)) _ l.1 in
    let x = or_none (first_fit life_rows (wanted b.lives (told_by b.contracts bs))) _ m.1 in
    record { takes = f.0; reads = l.0; lists = m.0; lives_on = x.0; has_room = x.1 }

pub passes : (b : Book) (n : ℕ) (bs : Bytes) → Passed b n bs → verdict b (Judge n bs) ≡ None
passes b n bs p = judging_parts b n bs ∙ cc (p.takes, p.reads, p.lists, p.lives_on, p.has_room)

-- ---- The table of looking up

pub looking_parts : (b : Book) (bs : Bytes) → verdict b (LookUp bs) ≡ or_else (first_fit line_rows bs) (first_fit market_rows (told_by b.contracts bs))
looking_parts b bs =
    fit_parts {Y = Bytes × Told} (λ x. x.0) line_rows (looking_at (λ x. x.1) market_rows) (bs, told_by b.contracts bs)
    ∙ ap (or_else (first_fit line_rows bs)) (fit_looking {Y = Bytes × Told} (λ x. x.1) market_rows (bs, told_by b.contracts bs))

-- ---- The table of adding a contract

pub contract_parts : (cs : List Contract) (bs : Bytes) → first_fit contract_rows (cs, bs) ≡ or_else (first_fit text_rows bs) (first_fit listing_rows (cs, offered bs))
contract_parts cs bs =
    fit_parts {Y = List Contract × Bytes} (λ x. x.1) text_rows (looking_at (λ x. (x.0, offered x.1)) listing_rows) (cs, bs)
    ∙ ap (or_else (first_fit text_rows bs)) (fit_looking {Y = List Contract × Bytes} (λ x. (x.0, offered x.1)) listing_rows (cs, bs))
