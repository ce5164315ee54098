-- The lines of an input, one after another.
use Rattle.std.proofs.Common.{◌≡◌, ◌+◌, ◌<◌, ◌≤◌, true, false, ltb, List, [], ◌∷◌, length, drop, sym, refl, ap, ◌∙◌, ⊎_elim, arith}
use Rattle.std.proofs.lemmas.Bool.{cases_Bool}
use Rattle.std.proofs.lemmas.Bool.Decides.{nat_tests}
use Rattle.std.proofs.lemmas.List.{take_all, drop_all}
use Rattle.text.specs.Bytes.{Bytes, pieces}
use Rattle.text.specs.Cuts.{span_to, front_to}
use Rattle.text.proofs.Pieces.{first_after, piece_and_more, piece_alone}
use Rattle.session.specs.Session.{without_empty_end, lines_of}

one_more_line : (t : Bytes) (ts : List Bytes) → 0 < length ts → without_empty_end (t ∷ ts) ≡ t ∷ without_empty_end ts
one_more_line t [] l = absurd (omega arith)
one_more_line t (u ∷ us) l = refl

a_line_alone : (bs : Bytes) → 0 < length bs → without_empty_end (bs ∷ []) ≡ bs ∷ []
a_line_alone [] l = absurd (omega arith)
a_line_alone (b ∷ bs) l = refl

-- what stands before the first line feed is a line, and then come those of what follows it
pub next_line : (bs : Bytes) → 0 < length bs → lines_of bs ≡ front_to 10 bs ∷ lines_of (drop (span_to 10 bs + 1) bs)
next_line bs l =
    ⊎_elim
    (λ (y : ltb (span_to 10 bs) (length bs) ≡ true).
    let m : span_to 10 bs < length bs = grind (arith, nat_tests) in
    let more = drop (span_to 10 bs + 1) bs in
    let some = ap length (first_after 10 more) in
    ap without_empty_end (piece_and_more 10 bs m) ∙ one_more_line (front_to 10 bs) (pieces 10 more) (omega (arith, some)))
    (λ (n : ltb (span_to 10 bs) (length bs) ≡ false).
    let m : length bs ≤ span_to 10 bs = grind (arith, nat_tests) in
    let all : front_to 10 bs ≡ bs = take_all (span_to 10 bs) bs m in
    let none : drop (span_to 10 bs + 1) bs ≡ [] = drop_all (span_to 10 bs + 1) bs (omega (arith, m)) in
    ap without_empty_end (piece_alone 10 bs m)
    ∙ ap (λ t. without_empty_end (t ∷ [])) all
    ∙ a_line_alone bs l
    ∙ (λ i. sym all i ∷ lines_of (sym none i)))
    (cases_Bool (ltb (span_to 10 bs) (length bs)))
