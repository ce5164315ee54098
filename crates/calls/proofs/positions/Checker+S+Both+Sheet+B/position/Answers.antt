use Rattle.std.proofs.Common.{◌≡◌, ◌≤◌, [], ◌∷◌, length, ◌∙◌, arith, rules}
use Rattle.std.specs.List.{AllByRecursion}
use Rattle.life.specs.Lives.{Lives}
use Rattle.measure.specs.Positions.{Within, true_position}
use Rattle.measure.specs.Sheets.{wrapped}
use Rattle.book.specs.Laws.{TidyLife}
use Rattle.book.proofs.Tidy.{tidy_law}
use Rattle.calls.specs.Follows.{book_after}
use Rattle.calls.proofs.positions.Checker+S+Both+Sheet+B.position.Goals as goal

-- the lives of a book are within the bounds that positions ask for
within : (ps : Lives) → AllByRecursion TidyLife ps → AllByRecursion Within ps
within [] tidy = tt
within (p ∷ ps) tidy = (record { listed = omega (arith, tidy.0.numbered_within); bounded = tidy.0.quantity_within }, within ps tidy.1)

pub returns : goal.returns
returns g c capacity past f =
    let lives = (book_after capacity past).lives in
    let n = c.args.contract in
    let tidy = tidy_law capacity past in
    let bounds = within lives tidy.each_life in
    let parts = c.parts.ensures.totals lives (c.total.ensures.told ∙ f.sums) in
    let wraps : c.position.result ≡ wrapped (true_position n lives) = c.position.ensures.wraps lives bounds parts.0 in (
      search (rules, wraps),
      λ few.
          let size : length lives ≤ 65535 = omega (arith, tidy.lives_within, few) in
          let told : c.position.result ≡ true_position n lives = c.position.ensures.exact lives size bounds parts.0 in
          search (rules, told),
    )
