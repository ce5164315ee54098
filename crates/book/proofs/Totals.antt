-- The order of a list of lives does not count in its total.
use Rattle.measure.proofs.Sums.{total_same}
use Rattle.book.specs.Totals.{TotalsLaw}

pub totals_law : {V : Type 0} → TotalsLaw V
totals_law nil joined inverse G weight ps qs u w h = total_same G weight ps qs u w h
