-- Option styles as the code has them.
use Rattle.std.specs.Prelude.{ℕ, Some, Option}
use Rattle.text.specs.Bytes.{Bytes, then}
use Rattle.contract.specs.declared.types.OptionStyle.{OptionStyle}
use Rattle.contract.specs.ContractList.{style_form}

abbrev pub as_style : Option ℕ → OptionStyle
as_style s = record { 0 = s }

-- the style that a text says
abbrev pub style_said : Bytes → Option OptionStyle
style_said t = then (style_form t) (λ s. Some (as_style s))
