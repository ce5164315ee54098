-- Hexadecimal digits, two for each byte.
use Rattle.std.proofs.Common.{◌≡◌, ℕ, zero, suc, ◌+◌, ◌/◌, ◌%◌, ◌^◌, ◌<◌, false, List, [], ◌∷◌, ◌++◌, length, slice_index, sym, refl, ap, ◌∙◌, append_assoc, arith}
use Rattle.std.proofs.Math.Nat.{div-div-eq-div-mul, pow-succ'}
use Rattle.std.specs.Fmt.{digit_glyph}
use Rattle.std.specs.Int.{bytes_high_first, byte_at}
use Rattle.std.proofs.lemmas.Nat.{mod_below}
use Rattle.hex.specs.Hex.{lower_digits, encode_with, encode_lower}
use Rattle.output.specs.Lines.{hexadecimal}

-- ---- The lowest byte stands last

byte_above : (k n : ℕ) → byte_at (suc k) n ≡ byte_at k (n / 256)
byte_above zero n = refl
byte_above (suc k) n = ap (λ m. n / m % 256) (pow-succ' 256 (suc k)) ∙ ap (λ m. m % 256) (sym (div-div-eq-div-mul n 256 (256 ^ suc k)))

bytes_last : (k n : ℕ) → bytes_high_first (suc k) n ≡ bytes_high_first k (n / 256) ++ (n % 256 ∷ [])
bytes_last zero n = refl
bytes_last (suc k) n = ap (λ b. b ∷ bytes_high_first (suc k) n) (byte_above k n) ∙ ap (λ bs. byte_at k (n / 256) ∷ bs) (bytes_last k n)

encode_last : (t bs : List ℕ) (b : ℕ) → encode_with t (bs ++ (b ∷ [])) ≡ encode_with t bs ++ (slice_index t (b / 16) ∷ slice_index t (b % 16) ∷ [])
unfolding encode_with
encode_last t [] b = refl
encode_last t (c ∷ bs) b = ap (λ l. slice_index t (c / 16) ∷ slice_index t (c % 16) ∷ l) (encode_last t bs b)

-- ---- The digits of a byte

-- the digits from `i` on
abbrev AreGlyphs : ℕ → List ℕ → Type 0
AreGlyphs i [] = Unit {0}
AreGlyphs i (g ∷ gs) = (g ≡ digit_glyph false i) × AreGlyphs (suc i) gs

glyph_at : (gs : List ℕ) (i d e : ℕ) → AreGlyphs i gs → d < length gs → i + d ≡ e → slice_index gs d ≡ digit_glyph false e
glyph_at [] i d e are within sum = absurd (omega arith)
glyph_at (g ∷ gs) i zero e are within sum = let here : i ≡ e = omega (arith, sum) in are.0 ∙ ap (digit_glyph false) here
glyph_at (g ∷ gs) i (suc d) e are within sum = glyph_at gs (suc i) d e are.1 (omega arith) (omega (arith, sum))

glyph : (d : ℕ) → d < 16 → slice_index lower_digits d ≡ digit_glyph false d
glyph d below = glyph_at lower_digits 0 d d (refl, (refl, (refl, (refl, (refl, (refl, (refl, (refl, (refl, (refl, (refl, (refl, (refl, (refl, (refl, (refl, tt)))))))))))))))) below (omega arith)

abbrev pub double : ℕ → ℕ
double zero = zero
double (suc k) = suc (suc (double k))

pub encoded : (k n : ℕ) → encode_lower (bytes_high_first k n) ≡ hexadecimal (double k) n
unfolding encode_with hexadecimal
encoded zero n = refl
encoded (suc k) n =
    let high : n % 256 / 16 ≡ n / 16 % 16 = omega arith in
    let low : n % 256 % 16 ≡ n % 16 = omega arith in
    let rest : n / 256 ≡ n / 16 / 16 = omega arith in
    let one = ap (slice_index lower_digits) high ∙ glyph (n / 16 % 16) (mod_below (n / 16) 16 (omega arith)) in
    let other = ap (slice_index lower_digits) low ∙ glyph (n % 16) (mod_below n 16 (omega arith)) in
    ap encode_lower (bytes_last k n)
    ∙ encode_last lower_digits (bytes_high_first k (n / 256)) (n % 256)
    ∙ (λ i. encoded k (n / 256) i ++ (one i ∷ other i ∷ []))
    ∙ ap (λ m. hexadecimal (double k) m ++ (digit_glyph false (n / 16 % 16) ∷ digit_glyph false (n % 16) ∷ [])) rest
    ∙ sym (append_assoc (hexadecimal (double k) (n / 16 / 16)) (digit_glyph false (n / 16 % 16) ∷ []) (digit_glyph false (n % 16) ∷ []))
