-- Tables of rows: the first fit in joined tables, and what an answer tells of it.
use Rattle.std.proofs.Common.{◌≡◌, ℕ, Bool, true, false, cond, List, [], ◌∷◌, ◌++◌, Some, None, Ok, Err, Option, refl, ap, ◌∙◌, arith}
use Rattle.text.specs.Bytes.{Bytes, start}
use Rattle.text.specs.Rows.{Row, first_fit, looking_at, fields, Refused, settled_by}

-- the first refusal, or else the second
abbrev pub or_else : {X : Type 0} → Option X → Option X → Option X
or_else None y = y
or_else (Some x) y = Some x

at_test : (t : Bool) (p : ℕ × ℕ) (x y : Option (ℕ × ℕ)) → cond t (Some p) (or_else x y) ≡ or_else (cond t (Some p) x) y
at_test true p x y = refl
at_test false p x y = refl

pub fit_append : {X : Type 0} (rs qs : List (Row X)) (x : X) → first_fit (rs ++ qs) x ≡ or_else (first_fit rs x) (first_fit qs x)
fit_append [] qs x = refl
fit_append (r ∷ rs) qs x =
    ap (cond (r.fits x) (Some (r.number, r.for_field))) (fit_append rs qs x)
    ∙ at_test (r.fits x) (r.number, r.for_field) (first_fit rs x) (first_fit qs x)

pub fit_looking : {X Y : Type 0} (part : Y → X) (rs : List (Row X)) (y : Y) → first_fit (looking_at part rs) y ≡ first_fit rs (part y)
fit_looking part [] y = refl
fit_looking part (r ∷ rs) y = ap (cond (r.fits (part y)) (Some (r.number, r.for_field))) (fit_looking part rs y)

-- ---- What an answer tells of the row that fitted

pub none_fitted : {V : Type 0} (bs : Bytes) (v x : V) (o : Option (ℕ × ℕ)) → Ok x ≡ settled_by bs v o → (o ≡ None) × (x ≡ v)
none_fitted bs v x None e = (refl, cc)
none_fitted bs v x (Some r) e = absurd (let z : ◌≡◌ {A = ℕ} 0 1 = cc in omega arith)

pub one_fitted : {V : Type 0} (bs : Bytes) (v : V) (n f at : ℕ) (o : Option (ℕ × ℕ)) → Err (Refused n f at) ≡ settled_by bs v o → (o ≡ Some (n, f)) × (at ≡ start f (fields bs))
one_fitted bs v n f at None e = absurd (let z : ◌≡◌ {A = ℕ} 0 1 = cc in omega arith)
one_fitted bs v n f at (Some r) e =
    let a : n ≡ r.0 = cc in
    let b : f ≡ r.1 = cc in
    let c : at ≡ start r.1 (fields bs) = cc in
    ((λ i. Some (sym_pair a b i)), c ∙ (λ i. start (sym_of b i) (fields bs)))
  where
    sym_of : {x y : ℕ} → x ≡ y → y ≡ x
    sym_of e = cc

    sym_pair : {x y u w : ℕ} → x ≡ y → u ≡ w → ◌≡◌ {A = ℕ × ℕ} (y, w) (x, u)
    sym_pair p q i = (sym_of p i, sym_of q i)
