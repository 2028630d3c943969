-- The items of a text, a line each.
use Rattle.std.specs.Prelude.{ℕ, ◌+◌, List, [], ◌∷◌, ◌++◌, drop}
use Rattle.std.specs.Fmt.{decimal}
use Rattle.hl_base.specs.Ascii.{line_feed, tab}
use Rattle.book.specs.declared.item.Book.{Book}
use Rattle.book.specs.declared.item.Item.{Item}
use Rattle.book.specs.declared.item.Item.TheVariants as item
use Rattle.book.specs.declared.item.Placed.{Placed}
use Rattle.explanations.specs.Explained.{first_content}
use Rattle.journal_printer.specs.Texts.{calendar_text}
use Rattle.refusals.specs.Outcomes.{Outcome, written}

-- the day of a transaction
abbrev pub day_in : Item → List ℕ
day_in (item.Txn txn) = calendar_text txn.day.0
day_in _ = []

-- the number of an item, and that of its first line
abbrev pub numbers : ℕ → ℕ → List ℕ
numbers number line = decimal number ++ (tab ∷ []) ++ decimal line ++ (tab ∷ [])

-- its day, and its first line
abbrev pub said : Item → List ℕ → List ℕ
said one first = day_in one ++ (tab ∷ []) ++ first ++ (line_feed ∷ [])

abbrev pub item_line : List ℕ → ℕ → Placed → List ℕ
item_line text number placed =
    numbers number placed.piece.line ++ said placed.item (first_content (drop placed.piece.at text))

-- the lines of items from a number on
abbrev pub lines_from : List ℕ → ℕ → List Placed → List ℕ
lines_from text number [] = []
lines_from text number (p ∷ ps) = item_line text number p ++ lines_from text (number + 1) ps

-- the items of a text that loads, numbered from 1 as edits number them
unfoldable pub items_made : List ℕ → List Placed → Book → Outcome
items_made text items book = written (lines_from text 1 items)
