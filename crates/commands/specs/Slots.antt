-- The option for the number of slots, and what a free slot is.
use Rattle.std.specs.Prelude.{ℕ, cond, take, drop, Some, None, Ok, Err, codes, Option, Result}
use Rattle.std.specs.Str.{bytes_eq}
use Rattle.text.specs.Bytes.{Bytes}
use Rattle.text.specs.Forms.{time_form}
use Rattle.life.specs.Blank.{no_key, no_life}
use Rattle.chained.specs.Table.{allowed_length}
use Rattle.chained.specs.declared.slot.Slot.{Slot}
use Rattle.commands.specs.declared.slots.SlotsFault.{SlotsFault}
use Rattle.commands.specs.declared.slots.SlotsFault.TheVariants.{Form, Length}

-- a number, if a store allows so many slots
abbrev pub slots_allowed : Option ℕ → Result ℕ SlotsFault
slots_allowed None = Err Form
slots_allowed (Some n) = cond (allowed_length n) (Ok n) (Err Length)

-- `--slots=` and a number
abbrev pub slots_form : Bytes → Result ℕ SlotsFault
slots_form word = cond (bytes_eq (take 8 word) (codes "--slots=")) (slots_allowed (time_form (drop 8 word))) (Err Form)

-- a slot without a chain, and with the blank pair
abbrev pub free_slot : Slot
free_slot = record { head = 0; next = 0; key = no_key; life = no_life }
