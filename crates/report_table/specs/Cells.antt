-- The texts of a table's cells.
use Rattle.std.specs.Prelude.{ℕ, false, List, [], ◌∷◌, ◌++◌, max, chars, codes}
use Rattle.std.specs.List.{flat_map}
use Rattle.hl_num.specs.Decimal.{Decimal}
use Rattle.unicode_width.specs.Width.{str_width}
use Rattle.book.specs.declared.style.Style.{Style}
use Rattle.book.specs.Printed.{printed_amount}

-- how many columns a text takes
abbrev pub width_of : List ℕ → ℕ
width_of text = str_width false (chars text)

-- the widest of some texts, and at least that wide
abbrev pub widest : ℕ → List (List ℕ) → ℕ
widest least [] = least
widest least (text ∷ texts) = max (width_of text) (widest least texts)

-- the sums of a cell: each symbol with what it came to
abbrev pub Cell : Type 0
Cell = List (List ℕ × Decimal)

-- a sum in its symbol's style
abbrev pub amount_text : (List ℕ → Style) → List ℕ × Decimal → List ℕ
amount_text style sum = printed_amount sum.0 sum.1 (style sum.0)

-- the same behind another
abbrev pub next_amount : (List ℕ → Style) → List ℕ × Decimal → List ℕ
next_amount style sum = codes ", " ++ amount_text style sum

-- the text of a cell: its sums with `, ` between them, or `0` where there is none
abbrev pub cell_text : (List ℕ → Style) → Cell → List ℕ
cell_text style [] = codes "0"
cell_text style (sum ∷ sums) = amount_text style sum ++ flat_map (next_amount style) sums
