use Rattle.std.proofs.Common.{◌≡◌, ℕ, rules, fold, Bor, List, [], ◌∷◌, refl, ap, ◌∙◌}
use Rattle.std.proofs.iter.runs.Made.{chains}
use Rattle.text.specs.Texts.{text_of}
use Rattle.life.specs.Fnv.{fnv}
use Rattle.measure.specs.Words.{check_word, low_first, kind_byte, side_byte, price_word}
use Rattle.measure.proofs.Hashes.{word_more}
use Rattle.measure.proofs.word.CheckWordMeasure.weigh.Goals as goal

-- the word of the id, and then of each part behind it
pub returns : goal.returns
returns c =
    let key = c.args.key.now in
    let life = c.args.life.now in
    let step = λ (w : ℕ) (p : Bor (List ℕ)). fnv w p.now in
    let folded : c.fold-word.result ≡ fold step key.word c.iter.result.rest.now = search (rules, chains) in
    let marks : List ℕ = kind_byte key.kind ∷ side_byte key.side ∷ key.contract ∷ [] in
    let marked : (c.kind_mark.result ∷ c.side_mark.result ∷ key.contract ∷ []) ≡ marks = cc (c.kind_mark.ensures, c.side_mark.ensures) in
    let id = word_more (text_of key.id) (0x3B ∷ []) key.kept refl in
    let participant = word_more _ key.participant id refl in
    let venue = word_more _ key.venue participant refl in
    let mark = word_more _ marks venue (ap (fnv _) marked) in
    let quantity = word_more _ (low_first life.quantity) mark (ap (fnv _) c.to_le_bytes-quantity.ensures) in
    let price = word_more _ (low_first (price_word life.price)) quantity (ap (fnv _) (c.to_le_bytes-price.ensures ∙ ap low_first c.price_bits.ensures)) in
    ap check_word (folded ∙ ap (fold step key.word) c.iter.ensures.rest ∙ price)
