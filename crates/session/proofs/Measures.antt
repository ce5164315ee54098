-- The measure of a program: positions and a check word.
use Rattle.measure.specs.declared.measure.Measure.{Ghosts}
use Rattle.measure.specs.declared.both.Both.{Both}
use Rattle.measure.specs.declared.sheet.Sheet.{Sheet}
use Rattle.measure.specs.declared.word.CheckWord.{CheckWord}
use Rattle.measure.specs.Boths.{both, both_joined, both_inverse, both_weight}
use Rattle.measure.specs.Laws.{both_group, sheet_group, word_group}
use Rattle.measure.specs.Sheets.{no_sheet, added, negated, sheet_weight}
use Rattle.measure.specs.Words.{no_word, xored, same_word, word_weight}

abbrev pub both_totals : Ghosts (Both Sheet CheckWord)
both_totals = record {
  nil = both no_sheet no_word;
  joined = both_joined added xored;
  inverse = both_inverse negated same_word;
  weight = both_weight sheet_weight word_weight;
  laws = both_group sheet_group word_group;
}
