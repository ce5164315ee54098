-- One byte more of a word or of a numeral.
use Rattle.std.proofs.Common.{◌≡◌, ℕ, ◌+◌, ◌-◌, ◌*◌, ◌^◌, ◌<◌, ◌≤◌, Bool, true, false, List, length, get_or, drop, ◌∙◌, pow-suc, add-one, arith}
use native.Mathlib.Nat.{pow-le-pow_right}
use Rattle.std.proofs.lemmas.List.{at_drop_more, at_drop_all}
use Rattle.text.specs.Bytes.{every}
use Rattle.text.specs.Forms.{written}

pub every_yes : (p : ℕ → Bool) (s : List ℕ) (i : ℕ) → i < length s → p (get_or s i 0) ≡ true → every p (drop i s) ≡ every p (drop (i + 1) s)
every_yes p s i l d = at_drop_more (every p) s i 0 l ∙ rw d

pub every_no : (p : ℕ → Bool) (s : List ℕ) (i : ℕ) → i < length s → p (get_or s i 0) ≡ false → every p (drop i s) ≡ false
every_no p s i l d = at_drop_more (every p) s i 0 l ∙ rw d

pub every_all : (p : ℕ → Bool) (s : List ℕ) (i : ℕ) → length s ≤ i → every p (drop i s) ≡ true
every_all p s i l = at_drop_all (every p) s i l

pub written_more : (v i : ℕ) (s : List ℕ) → i < length s → written v (drop i s) ≡ written (v * 10 + (get_or s i 0 - 48)) (drop (i + 1) s)
written_more v i s l = at_drop_more (written v) s i 0 l

pub written_all : (v i : ℕ) (s : List ℕ) → length s ≤ i → written v (drop i s) ≡ v
written_all v i s l = at_drop_all (written v) s i l

pub power_more : (v b i : ℕ) → v < 10 ^ i → b < 10 → v * 10 + b < 10 ^ (i + 1)
power_more v b i l d = rw (add-one, pow-suc) (omega arith)

pub power_ten : (v i : ℕ) → v < 10 ^ i → i ≤ 10 → v < 10000000000
power_ten v i l d = omega (arith, pow-le-pow_right {n = 10} (omega arith) {i = i} {j = 10} d)
