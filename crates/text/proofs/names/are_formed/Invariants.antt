use Rattle.std.proofs.Common.{◌≡◌, ◌-◌, take, drop}
use Rattle.text.specs.Bytes.{every}
use Rattle.text.specs.Forms.{a_name}
use Rattle.text.specs.Listings.{listing}
use Rattle.text.proofs.names.are_formed.Given as goal

abbrev pub invariant-loop : goal.invariant-loop
invariant-loop l =
    (every a_name (take 8 (listing l.initial.names)) ≡ every a_name (take (8 - l.counter) (listing l.names)))
    × (drop 8 (listing l.initial.names) ≡ drop (8 - l.counter) (listing l.names))
