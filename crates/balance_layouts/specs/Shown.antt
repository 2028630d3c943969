-- The rows of a balance list, printed, and their lines.
use Rattle.std.specs.Prelude.{ℕ, List, [], ◌∷◌, ◌++◌, map, replicate, codes}
use Rattle.hl_base.specs.Ascii.{line_feed}
use Rattle.book.specs.declared.style.Style.{Style}
use Rattle.book.specs.Printed.{printed_units_of}
use Rattle.report_cells.specs.Report.{Sums}
use Rattle.report_table.specs.Tables.{right_aligned}
use Rattle.balance_rows.specs.Rows.{Row, first_cell}

-- the texts of some sums, each in its symbol's style
abbrev pub texts_of : (List ℕ → Style) → Sums → List (List ℕ)
texts_of style sums = map (λ sum. printed_units_of sum.0 sum.1 (style sum.0)) sums

-- a name with the texts of its sums in the one column
abbrev pub Printed : Type 0
Printed = List ℕ × List (List ℕ)

abbrev pub printed_row : (List ℕ → List ℕ) → (List ℕ → Style) → Row → Printed
printed_row name style row = (name row.0, texts_of style (first_cell row.1))

-- the line of an amount that a name follows
abbrev pub named_line : ℕ → List ℕ → List ℕ → List ℕ
named_line width name text = right_aligned width text ++ codes "  " ++ name ++ (line_feed ∷ [])

-- a line for each text, the last one followed by two spaces and a name; `0` where there is no text
abbrev pub amount_lines : ℕ → List ℕ → List (List ℕ) → List ℕ
amount_lines width name [] = named_line width name (codes "0")
amount_lines width name (text ∷ []) = named_line width name text
amount_lines width name (text ∷ other ∷ texts) =
    right_aligned width text ++ (line_feed ∷ []) ++ amount_lines width name (other ∷ texts)

-- the lines of a row
abbrev pub row_lines : ℕ → Printed → List ℕ
row_lines width row = amount_lines width row.0 row.1

-- dashes, and the lines of the total
abbrev pub end_lines : ℕ → List (List ℕ) → List ℕ
end_lines width total = replicate width 45 ++ (line_feed ∷ []) ++ amount_lines width [] total
