use Rattle.std.proofs.Common.{◌≡◌, ◌^◌, ◌<◌, drop}
use Rattle.std.specs.Char.{is_ascii_digit}
use Rattle.text.specs.Bytes.{every}
use Rattle.text.specs.Forms.{written}
use Rattle.text.proofs.numbers.digits_of.Given as goal

abbrev pub invariant-loop-b : goal.invariant-loop-b
invariant-loop-b l =
    (every is_ascii_digit (drop l.b-index l.text) ≡ every is_ascii_digit l.text)
    × (written l.v (drop l.b-index l.text) ≡ written 0 l.text)
    × (l.v < 10 ^ l.b-index)
