-- The first contract with an id, by where it stands.
use Rattle.std.proofs.Common.{◌≡◌, ℕ, zero, suc, ◌+◌, ◌*◌, ◌<◌, ◌≤◌, ◌&&◌, nat_le, sum_by, Bool, true, false, cond, List, [], ◌∷◌, map, length, get_or, Some, None, sym, refl, ap, ◌∙◌, arith}
use Rattle.std.specs.Bool.{Decides}
use Rattle.std.specs.List.{position_from}
use Rattle.std.proofs.lemmas.Bool.Decides.{nat_tests}
use Rattle.std.proofs.lemmas.List.{length-take-le}
use Rattle.std.proofs.lemmas.Slice.Eq.{bytes_eq-Decides}
use Rattle.std.proofs.lemmas.Option.{none-some}
use Rattle.std.proofs.lemmas.List.Sums.{sum_by-cons}
use Rattle.text.specs.Bytes.{Bytes, provided}
use Rattle.text.specs.Texts.{text_of}
use Rattle.contract.specs.declared.held.HeldContract.{HeldContract}
use Rattle.contract.specs.ContractList.{numbered}
use Rattle.contract.specs.Held.{contract_of, has_id}

pub found_at : (n : ℕ) (cs : List HeldContract) (id : Bytes) (i : ℕ) (d : HeldContract)
    → i < length cs → has_id id (get_or cs i d) ≡ true → ((k : ℕ) → k < i → has_id id (get_or cs k d) ≡ false)
    → numbered n (map contract_of cs) id ≡ Some (n + i, contract_of (get_or cs i d))
found_at n [] id i d l y f = absurd (omega arith)
found_at n (c ∷ cs) id zero d l y f =
    let s : n ≡ n + zero = omega arith in
    ap (λ b. cond b (Some (n, contract_of c)) (numbered (suc n) (map contract_of cs) id)) y ∙ ap (λ m. Some (m, contract_of c)) s
found_at n (c ∷ cs) id (suc i) d l y f =
    let s : suc n + i ≡ n + suc i = omega arith in
    ap (λ b. cond b (Some (n, contract_of c)) (numbered (suc n) (map contract_of cs) id)) (f 0 (omega arith))
    ∙ found_at (suc n) cs id i d (omega arith) y (λ k m. f (suc k) (omega arith))
    ∙ ap (λ m. Some (m, contract_of (get_or cs i d))) s

pub none_found : (n m : ℕ) (cs : List HeldContract) (id : Bytes) → position_from (has_id id) m cs ≡ None → numbered n (map contract_of cs) id ≡ None
none_found n m [] id e = refl
none_found n m (c ∷ cs) id e = go (has_id id c) e (none_found (suc n) (m + 1) cs id)
  where
    go : (b : Bool) → cond b (Some m) (position_from (has_id id) (m + 1) cs) ≡ None
        → (position_from (has_id id) (m + 1) cs ≡ None → numbered (suc n) (map contract_of cs) id ≡ None)
        → cond b (Some (n, contract_of c)) (numbered (suc n) (map contract_of cs) id) ≡ None
    go true f h = absurd (none-some m (sym f))
    go false f h = h f

-- an id of more than 32 bytes is no contract's
pub no_id : (b : Bool) (c : HeldContract) (id : Bytes)
    → 32 < length id → Decides b (text_of c.id ≡ id) → b ≡ false
no_id true c id l p =
    let same : length (text_of c.id) ≡ length id = ap length (p.0 refl) in
    absurd (omega (arith, same, length-take-le c.id.len c.id.bytes (omega (arith, c.id.ok))))
no_id false c id l p = refl

pub no_place : (m : ℕ) (cs : List HeldContract) (id : Bytes)
    → 32 < length id → position_from (has_id id) m cs ≡ None
no_place m [] id l = refl
no_place m (c ∷ cs) id l =
    let other = no_id (has_id id c) c id l (bytes_eq-Decides (text_of c.id) id) in
    ap (λ b. cond b (Some m) (position_from (has_id id) (m + 1) cs)) other
    ∙ no_place (m + 1) cs id l

pub too_long : (id : Bytes)
    → None ≡ provided (nat_le (length id) 32 && nat_le (length id) 255) id → 32 < length id
too_long id e = grind (arith, nat_tests)

-- no contract has more than eight names
pub eight_each : (cs : List HeldContract) → sum_by (λ c. length c.names.texts.items) cs ≤ 8 * length cs
eight_each [] = omega arith
eight_each (c ∷ cs) =
    let few = c.names.few in
    omega (arith, few, sum_by-cons (λ (c : HeldContract). length c.names.texts.items) c cs, eight_each cs)
