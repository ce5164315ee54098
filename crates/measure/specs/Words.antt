-- The check word: FNV-1a words of lives, joined by exclusive or.
use Rattle.std.specs.Prelude.{ℕ, ◌/◌, ◌%◌, [], ◌∷◌, ◌++◌, ℤ, Some, None, Option, bit_xor}
use Rattle.std.proofs.Common.{of_z}
use Rattle.std.specs.Int.{w64}
use Rattle.text.specs.Bytes.{Bytes}
use Rattle.text.specs.declared.words.Kind.{Kind}
use Rattle.text.specs.declared.words.Kind.TheVariants.{Order, Trade}
use Rattle.text.specs.declared.words.Side.{Side}
use Rattle.text.specs.declared.words.Side.TheVariants.{Buy, Sell}
use Rattle.life.specs.Fnv.{word_of}
use Rattle.life.specs.Parts.{KeyParts, LifeParts}
use Rattle.measure.specs.declared.word.CheckWord.{CheckWord}

-- ---- The bytes of a life

abbrev pub kind_byte : Kind → ℕ
kind_byte Order = 79
kind_byte Trade = 84

abbrev pub side_byte : Side → ℕ
side_byte Buy = 66
side_byte Sell = 83

-- a price in two's complement, 0 if blank
abbrev pub price_word : Option ℤ → ℕ
price_word None = 0
price_word (Some price) = of_z w64 price

-- eight bytes, the low one first
abbrev pub low_first : ℕ → Bytes
low_first n =
    (n % 256)
    ∷ (n / 256 % 256)
    ∷ (n / 65536 % 256)
    ∷ (n / 16777216 % 256)
    ∷ (n / 4294967296 % 256)
    ∷ (n / 1099511627776 % 256)
    ∷ (n / 281474976710656 % 256)
    ∷ (n / 72057594037927936 % 256)
    ∷ []

-- id, byte 3B, participant, venue, `O` or `T`, `B` or `S`, contract number, quantity, price
abbrev pub bytes_of : KeyParts → LifeParts → Bytes
bytes_of key life =
    key.of_id
    ++ (0x3B ∷ [])
    ++ key.of_participant
    ++ key.of_venue
    ++ (kind_byte key.of_kind ∷ side_byte key.of_side ∷ key.of_contract ∷ [])
    ++ low_first life.with_quantity
    ++ low_first (price_word life.with_price)

-- ---- The measure

abbrev pub check_word : ℕ → CheckWord
check_word n = record { word = n }

abbrev pub no_word : CheckWord
no_word = check_word 0

abbrev pub xored : CheckWord → CheckWord → CheckWord
xored x y = check_word (bit_xor x.word y.word)

-- each word is its own inverse
abbrev pub same_word : CheckWord → CheckWord
same_word x = x

abbrev pub word_weight : KeyParts → LifeParts → CheckWord
word_weight key life = check_word (word_of (bytes_of key life))
