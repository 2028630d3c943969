-- A text that grows at its end.
use Rattle.std.specs.Prelude.{◌≡◌, ℕ, ◌≤◌, List, ◌++◌, Option, length}
use Rattle.hl_base.specs.Items.{items_of}
use Rattle.hl_base.specs.Limits.{item_limit, text_limit}
use Rattle.book.specs.declared.item.Placed.{Placed}
use Rattle.additions.specs.Meaning.{ReadsOn}
use Rattle.text_ends.specs.Ends.{end_of}
use Rattle.text_ends.specs.Going.{longer}
use Rattle.text_ends.specs.Whole.{ComesTo}
use Rattle.text_ends.specs.declared.reading.Grown.{Grown}

-- an item whose piece has so many more bytes; it says the same
abbrev pub lengthened : ℕ → Placed → Placed
lengthened more p = record { piece = longer more p.piece; item = p.item }

-- Bytes behind a text that begins in a year, and reads as these items, come to this; the whole is within its limits, and reads so.
pub record IsGrown (year : Option ℕ) (text bytes : List ℕ) (items : List Placed) (g : Grown) : Type 0 where
  pub few_bytes : length (text ++ bytes) ≤ text_limit
  pub few_items : length (items_of (text ++ bytes)) ≤ item_limit
  pub comes : ComesTo (end_of year text items) bytes g
  pub reads : ReadsOn year text bytes items g
