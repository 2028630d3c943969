-- The text of a statement, and why it can't be made.
use Rattle.std.specs.Prelude.{◌≡◌, ℕ, List, [], ◌∷◌, ◌++◌, map, length, codes, Option, Some, None, if◌then◌else◌}
use Rattle.hl_time.specs.declared.spans.Span.{Span}
use Rattle.book.specs.declared.style.Style.{Style}
use Rattle.report_cells.specs.Report.{Sums}
use Rattle.report_table.specs.Cells.{Cell}
use Rattle.report_table.specs.Tables.{table_text}
use Rattle.report_table.specs.declared.table.Section.{Section}
use Rattle.report_table.specs.declared.table.Table2.{Table2}
use Rattle.balance_rows.specs.declared.layout.Layout.{Layout}
use Rattle.balance_rows.specs.Layouts.{laid_rows}
use Rattle.balance_rows.specs.Rows.{Row}
use Rattle.balance_layouts.specs.Averages.{least}
use Rattle.balance_layouts.specs.Tables.{exact_cell, section_of}
use Rattle.balance_layouts.specs.Titles.{heads_of, span_text}
use Rattle.balance_layouts.specs.Totals.{rows_out, totals_out, with_total}
use Rattle.statements.specs.declared.statement.Part.{Part}
use Rattle.statements.specs.declared.statement.Statement.{Statement}
use Rattle.statements.specs.Chosen.{net, part_rows, part_totals}
use Rattle.statements.specs.declared.writing.Body.{Body}
use Rattle.statements.specs.Described.{first_of, name_of, second_of, title_of}
use Rattle.statements.specs.Exactly.{exact_last, exactly}

-- A section: its name, and the rows and totals of a balance table.
abbrev pub part_section : Layout → ℕ → (List ℕ → Style) → Part → List Row → List Sums → Section
part_section layout columns style part rows totals =
    let shown = section_of layout columns style (laid_rows layout columns rows) totals in
    record { name = Some (name_of part); rows = shown.rows; totals = shown.totals }

-- the last line, unless totals are left out
abbrev pub net_line : Layout → ℕ → (List ℕ → Style) → List Sums → Option (List ℕ × List Cell)
net_line layout columns style sums =
    if layout.no_total then None else Some (codes "Net:", map exact_cell (with_total layout columns style sums))

-- the net of two sections' rows
abbrev pub net_of : Layout → ℕ → List Row → List Row → List Sums
net_of layout columns first second =
    net columns (part_totals layout.order columns first) (part_totals layout.order columns second)

-- both sections, from their rows
abbrev pub sections_of : Statement → Layout → ℕ → (List ℕ → Style) → List Row → List Row → List Section
sections_of statement layout columns style first second =
    part_section layout columns style (first_of statement) first (part_totals layout.order columns first)
    ∷ part_section layout columns style (second_of statement) second (part_totals layout.order columns second)
    ∷ []

-- A statement as a table, from the rows of its two sections.
abbrev pub table_of : Statement → Layout → (List ℕ → Style) → List Span → List Row → List Row → Table2
table_of statement layout style columns first second =
    let count = length columns in
    record {
      title = title_of statement ++ span_text columns;
      heads = heads_of layout columns;
      sections = sections_of statement layout count style first second;
      last = net_line layout count style (net_of layout count first second);
    }

-- The text of a statement over rows of all accounts.
abbrev pub statement_text : Statement → Layout → (List ℕ → Option ℕ) → (List ℕ → Style) → List Span → List Row → List ℕ
statement_text statement layout own style columns rows =
    table_text style
    (table_of statement layout style columns (part_rows own (first_of statement) rows) (part_rows own (second_of statement) rows))

-- ---- averages that can't be told

-- the symbols of these in a section
abbrev pub part_out : Layout → ℕ → (List ℕ → Style) → List Row → List Sums → List (List ℕ)
part_out layout columns style rows totals =
    rows_out layout columns style (laid_rows layout columns rows) ++ totals_out layout columns style totals

-- in the last line and in both sections
abbrev pub parts_out : Layout → ℕ → (List ℕ → Style) → List Row → List Row → List (List ℕ)
parts_out layout columns style first second =
    totals_out layout columns style (net_of layout columns first second)
    ++ part_out layout columns style first (part_totals layout.order columns first)
    ++ part_out layout columns style second (part_totals layout.order columns second)

-- the least of them
abbrev pub out_of_range : Statement → Layout → (List ℕ → Option ℕ) → (List ℕ → Style) → ℕ → List Row → Option (List ℕ)
out_of_range statement layout own style columns rows =
    least (parts_out layout columns style (part_rows own (first_of statement) rows) (part_rows own (second_of statement) rows))

-- ---- a statement that is made

-- its sections and its last line say what the definition's do
pub record IsBody (statement : Statement) (layout : Layout) (columns : ℕ) (style : List ℕ → Style) (first second : List Row) (body : Body) : Type 0 where
  pub sections : map exactly body.sections ≡ sections_of statement layout columns style first second
  pub last : exact_last body.last ≡ net_line layout columns style (net_of layout columns first second)
