-- Sums that are kept while a register is written, one posting after another.
use Rattle.std.specs.Prelude.{ℕ, List, [], ◌∷◌, ◌++◌, Option, Some, codes}
use Rattle.std.specs.List.{flat_map}
use Rattle.hl_num.specs.Decimal.{Decimal}
use Rattle.book.specs.Printed.{printed_amount}
use Rattle.book.specs.declared.style.Style.{Style}
use Rattle.report_table.specs.Tables.{spaces}
use Rattle.report_cells.specs.Kept.{Cell, ShareFits, with_share}
use Rattle.report_cells.specs.Taken.{Taken}
use Rattle.register_report.specs.Lines.{Shown, column_line, continues, posting_text, stamp}

-- some sums after the amounts of takings
abbrev pub summed : Cell → List Taken → Cell
summed sums [] = sums
summed sums (t ∷ ts) = summed (with_share t.amount sums) ts

-- each of these amounts can be added
abbrev pub SumsFit : Cell → List Taken → Type 0
SumsFit sums [] = Unit {0}
SumsFit sums (t ∷ ts) = ShareFits t.amount sums × SumsFit (with_share t.amount sums) ts

-- a kept sum in its symbol's style
abbrev pub kept_text : (List ℕ → Style) → List ℕ × Decimal → List ℕ
kept_text style sum = printed_amount sum.0 sum.1 (style sum.0)

-- a further one, in a line of its own
abbrev pub kept_line : (List ℕ → Style) → List ℕ × Decimal → List ℕ
kept_line style sum = spaces 69 ++ column_line (kept_text style sum)

-- kept sums below one another, `0` for none
abbrev pub cell_lines : (List ℕ → Style) → Cell → List ℕ
cell_lines style [] = column_line (codes "0")
cell_lines style (sum ∷ sums) = column_line (kept_text style sum) ++ flat_map (kept_line style) sums

-- the lines of postings behind a last one, with sums that begin with those that are kept
abbrev pub kept_lines : (List ℕ → Style) → Cell → Option (ℕ × ℕ) → List Shown → List ℕ
kept_lines style sums last [] = []
kept_lines style sums last (e ∷ es) =
    posting_text style (continues last e) e
    ++ cell_lines style (with_share e.1.amount sums)
    ++ kept_lines style (with_share e.1.amount sums) (Some (stamp e)) es
