-- Over at most 65,535 lives no sum of the position sheet wraps.
use Rattle.std.proofs.Common.{◌≡◌, ℕ, suc, ◌+◌, ◌-◌, ◌*◌, ◌%◌, ◌^◌, ◌<◌, ◌≤◌, true, false, cond, ◌&&◌, eqb, ltb, leb, List, [], ◌∷◌, length, ℤ, pos, negsuc, ◌+ℤ◌, neg_ℤ, sym, refl, ap, ◌∙◌, ⊎_elim, arith, w64, to_z}
use lib.ListN.{length-map}
use Rattle.std.specs.List.{AllByRecursion}
use Rattle.std.proofs.lemmas.Int.{ints, to_z-of_z}
use Rattle.std.proofs.lemmas.Bool.{cases_lt, ne_eqb, and_from, and_parts}
use Rattle.std.proofs.lemmas.Bool.Decides.{nat_tests}
use Rattle.text.specs.declared.words.Kind.{Kind}
use Rattle.text.specs.declared.words.Kind.TheVariants.{Order, Trade}
use Rattle.text.specs.declared.words.Side.{Side}
use Rattle.text.specs.declared.words.Side.TheVariants.{Buy, Sell}
use Rattle.life.specs.declared.key.Key.{Key}
use Rattle.life.specs.declared.life.Life.{Life}
use Rattle.life.specs.declared.life.State.TheVariants.{Open, Cancelled}
use Rattle.measure.specs.declared.sheet.Sheet.{Sheet}
use Rattle.measure.specs.Group.{Group}
use Rattle.life.specs.Lives.{Pair, Lives, plain_pair, plain, Unique, Same}
use Rattle.measure.specs.Totals.{while_open, share, total_of}
use Rattle.measure.specs.Positions.{traded, brought, true_position, Within, all_within}
use Rattle.measure.specs.Sheets.{cell, position_of, no_sheet, added, residue, sheet_weight}
use Rattle.measure.specs.Laws.{cell_sheet, sheet_group}
use Rattle.measure.proofs.Cells.{cell_past, cell_added, cell_none, residue_minus}
use Rattle.measure.proofs.Sums.{total_same}

-- the word n stands for z, which is the difference of two numbers of at most `most`
record StandsFor (n : ℕ) (z : ℤ) (most : ℕ) : Type 0 where
  p : ℕ
  q : ℕ
  word : (n + q) % 2 ^ 64 ≡ p % 2 ^ 64
  true_value : z +ℤ pos q ≡ pos p
  small_p : p ≤ most
  small_q : q ≤ most

nothing : (n most : ℕ) → n ≡ 0 → StandsFor n (pos 0) most
nothing n most e = record { p = 0; q = 0; word = omega arith; true_value = refl; small_p = omega arith; small_q = omega arith }

joins : (m n : ℕ) (y z : ℤ) (k l s : ℕ) → StandsFor m y k → StandsFor n z l → s ≡ (m + n) % 2 ^ 64 → StandsFor s (y +ℤ z) (k + l)
joins m n y z k l s a b e = record {
  p = a.p + b.p;
  q = a.q + b.q;
  word = omega arith;
  true_value = omega (arith, ints);
  small_p = omega arith;
  small_q = omega arith;
}

reads : (n : ℕ) (z : ℤ) (most : ℕ) → n < 2 ^ 64 → most < 2 ^ 63 → StandsFor n z most → to_z w64 n ≡ z
reads n (pos m) most h small s =
    let same : n ≡ m = omega (arith, ints) in
    let low : m < 2 ^ 63 = omega (arith, ints) in
    ap (to_z w64) same ∙ to_z-of_z w64 (pos m) (record { sfits = low })
reads n (negsuc m) most h small s =
    let same : n ≡ 2 ^ 64 - suc m = omega (arith, ints) in
    let low : m < 2 ^ 63 = omega (arith, ints) in
    ap (to_z w64) same ∙ to_z-of_z w64 (negsuc m) (record { sfits = low })

looser : (n : ℕ) (z : ℤ) (k l : ℕ) → k ≤ l → StandsFor n z k → StandsFor n z l
looser n z k l h s = record { p = s.p; q = s.q; word = s.word; true_value = s.true_value; small_p = omega arith; small_q = omega arith }

-- the largest quantity of a life
abbrev most : ℕ
most = 1000000000000

traded_stands : (kind : Kind) (side : Side) (q : ℕ) → q ≤ most → StandsFor (residue (traded kind side q) % 2 ^ 64) (traded kind side q) most
traded_stands Order side q h = nothing _ most (omega arith)
traded_stands Trade Buy q h = record { p = q; q = 0; word = omega arith; true_value = omega (arith, ints); small_p = h; small_q = omega arith }
traded_stands Trade Sell q h =
    let minus = residue_minus q in
    record { p = 0; q = q; word = omega arith; true_value = omega (arith, ints); small_p = omega arith; small_q = h }

weight_stands : (n : ℕ) (p : Pair) → Within p → StandsFor (cell (sheet_weight p.0 p.1) n) (brought n p.0 p.1) most
weight_stands n p w =
    let at = p.0.of_contract in
    let z = traded p.0.of_kind p.0.of_side p.1.with_quantity in
    ⊎_elim
    (λ h. rw (cell_sheet (λ i. residue (brought i p.0 p.1)) n h)
    (elim (eqb n at) as (λ b. StandsFor (residue (cond b z (pos 0)) % 2 ^ 64) (cond b z (pos 0)) most) [
      | true ↦ traded_stands p.0.of_kind p.0.of_side p.1.with_quantity w.bounded
      | false ↦ nothing _ most (omega arith)
    ]))
    (λ h. rw (ne_eqb n at (λ e. omega (arith, w.listed))) (nothing _ most (cell_past (sheet_weight p.0 p.1) n h)))
    (cases_lt n 64)

share_stands : (n : ℕ) (p : Pair) → Within p →
    StandsFor (cell (share no_sheet sheet_weight p.0 p.1) n) (share (pos 0) (brought n) p.0 p.1) most
share_stands n p w =
    elim p.1.in_state as (λ s. StandsFor (cell (while_open no_sheet s (sheet_weight p.0 p.1)) n) (while_open (pos 0) s (brought n p.0 p.1)) most)
    [ Open ↦ weight_stands n p w | Cancelled ↦ nothing _ most (cell_none n) ]

all_stand : (n : ℕ) (ps : Lives) → AllByRecursion Within ps → StandsFor (cell (total_of no_sheet added sheet_weight ps) n) (true_position n ps) (length ps * most)
all_stand n [] w = nothing _ _ (cell_none n)
all_stand n (p ∷ ps) w =
    let x = share no_sheet sheet_weight p.0 p.1 in
    let t = total_of no_sheet added sheet_weight ps in
    looser _ _ (most + length ps * most) (length (p ∷ ps) * most) (omega arith)
    (joins (cell x n) (cell t n) (share (pos 0) (brought n) p.0 p.1) (true_position n ps) most (length ps * most) _
    (share_stands n p w.0) (all_stand n ps w.1) (cell_added x t n))

-- ---- For those who tell positions

-- a sheet that is the total of so many lives shows the true positions
pub exact : (n : ℕ) (ps : Lives) → length ps ≤ 65535 → AllByRecursion Within ps → (s : Sheet) → s ≡ total_of no_sheet added sheet_weight ps → position_of s n ≡ true_position n ps
exact n ps few w s e =
    ap (λ t. position_of t n) e
    ∙ reads _ _ (length ps * most) ((total_of no_sheet added sheet_weight ps).fit n) (omega arith) (all_stand n ps w)

-- the pairs that code holds are within bounds, by what keys and lives keep
pub plain_all_within : (ps : List (Key × Life)) → all_within (plain ps) ≡ true
plain_all_within [] = refl
plain_all_within (p ∷ ps) =
    let l : p.0.contract < 64 = p.0.listed in
    let q : p.1.quantity ≤ 1000000000000 = p.1.bounded in
    let c : ltb p.0.contract 64 ≡ true = grind (arith, nat_tests) in
    let b : leb p.1.quantity 1000000000000 ≡ true = grind (arith, nat_tests) in
    and_from _ _ (and_from _ _ c b) (plain_all_within ps)

-- what the test of bounds tells
pub within_from : (ps : Lives) → all_within ps ≡ true → AllByRecursion Within ps
within_from [] e = tt
within_from (p ∷ ps) e =
    let h = and_parts (ltb p.0.of_contract 64 && leb p.1.with_quantity 1000000000000) (all_within ps) e in
    let k = and_parts (ltb p.0.of_contract 64) (leb p.1.with_quantity 1000000000000) h.0 in
    let l : ltb p.0.of_contract 64 ≡ true = k.0 in
    let q : leb p.1.with_quantity 1000000000000 ≡ true = k.1 in
    (record { listed = grind (arith, nat_tests); bounded = grind (arith, nat_tests) }, within_from ps h.1)

pub plain_within : (ps : List (Key × Life)) → AllByRecursion Within (plain ps)
plain_within ps = within_from (plain ps) (plain_all_within ps)

pub exact_plain : (n : ℕ) (ps : List (Key × Life)) → length ps ≤ 65535 → (s : Sheet) → s ≡ total_of no_sheet added sheet_weight (plain ps) → position_of s n ≡ true_position n (plain ps)
exact_plain n ps few s e = exact n (plain ps) (omega (arith, length-map ps plain_pair)) (plain_within ps) s e

-- integers have the laws of joining
integers : Group (pos 0) ◌+ℤ◌ neg_ℤ
integers = record {
  assoc = λ x y z. omega (arith, ints);
  comm = λ x y. omega (arith, ints);
  unit = λ x. omega (arith, ints);
  undo = λ x. omega (arith, ints);
}

-- true positions do not depend on the order of a list
pub position_same : (n : ℕ) (ps qs : Lives) → Unique ps → Unique qs → Same ps qs → true_position n ps ≡ true_position n qs
position_same n = total_same integers (brought n)

-- for a list with the look-ups of the pairs that code holds
pub exact_as : (n : ℕ) (ps : List (Key × Life)) (ls : Lives) → length ps ≤ 65535 → Unique (plain ps) → Unique ls → Same (plain ps) ls →
    (s : Sheet) → s ≡ total_of no_sheet added sheet_weight ls → position_of s n ≡ true_position n ls
exact_as n ps ls few u w h s e =
    exact_plain n ps few s (e ∙ sym (total_same sheet_group sheet_weight (plain ps) ls u w h)) ∙ position_same n (plain ps) ls u w h
