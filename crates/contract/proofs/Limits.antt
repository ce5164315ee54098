-- Every list is within its limits, by the types of what it holds and the invariant of its model.
use Rattle.std.proofs.Common.{◌≡◌, ℕ, ◌≤◌, List, [], ◌∷◌, map, length, subst, arith}
use Rattle.std.specs.List.{AllByRecursion}
use Rattle.std.proofs.lemmas.List.{length-map, length-take}
use Rattle.text.specs.declared.bounded.Text.{Text}
use Rattle.text.specs.Texts.{text_of, texts_of}
use Rattle.contract.specs.declared.held.HeldContract.{HeldContract}
use Rattle.contract.specs.declared.list.ContractList.TheInside.{Inside}
use Rattle.contract.specs.ContractList.{Contract, ContractWithin, WithinLimits}
use Rattle.contract.specs.Held.{contract_of, contracts_of, HasRoom}

text_short : {n : ℕ} (t : Text n) → length (text_of t) ≤ n
text_short t = let ok = t.ok in omega (arith, ok.0, length-take t.len t.bytes)

texts_short : {n : ℕ} (ts : List (Text n)) → AllByRecursion (λ s. length s ≤ n) (texts_of ts)
texts_short [] = tt
texts_short (t ∷ ts) = (text_short t, texts_short ts)

each_within : (cs : List HeldContract) → AllByRecursion ContractWithin (map contract_of cs)
each_within [] = tt
each_within (c ∷ cs) =
    let id = text_short c.id in
    let few = c.names.few in
    let names = length-map c.names.texts.items (text_of {n = 32}) in (
      record {
        id_short = omega (arith, id);
        names_few = omega (arith, few, names);
        names_short = texts_short c.names.texts.items;
      },
      each_within cs,
    )

pub within : (held : List HeldContract) → length held ≤ 63 → WithinLimits (map contract_of held)
within held few = record {
  few = omega (arith, few, length-map held contract_of);
  each = each_within held;
}

-- the value of a list whose model keeps its invariant
pub held_within : (list : Inside) (cs : List Contract)
    → HasRoom list → contracts_of list ≡ cs → WithinLimits cs
held_within list cs room e =
    let few = room.few in
    subst WithinLimits e (within list.contracts.items (omega (arith, few)))
