-- The text of a budget, and why it can't be made.
use Rattle.std.specs.Prelude.{ℕ, List, [], ◌∷◌, ◌++◌, map, length, codes, Option, if◌then◌else◌}
use Rattle.std.specs.List.{flat_map}
use Rattle.std.specs.Str.{bytes_eq}
use Rattle.hl_base.specs.Ascii.{line_feed}
use Rattle.hl_time.specs.declared.spans.Span.{Span}
use Rattle.book.specs.declared.style.Style.{Style}
use Rattle.report_cells.specs.Report.{Sums}
use Rattle.report_table.specs.Tables.{head_line, lines_text, thick, thin}
use Rattle.report_table.specs.declared.lines.TableLine.{TableLine}
use Rattle.report_table.specs.declared.lines.TableLine.TheVariants as table_line
use Rattle.balance_rows.specs.declared.layout.Layout.{Layout}
use Rattle.balance_rows.specs.Rows.{Row}
use Rattle.balance_layouts.specs.Averages.{least}
use Rattle.balance_layouts.specs.Titles.{heads_of, span_text}
use Rattle.balance_layouts.specs.Totals.{outs_of, rows_out, totals_out, with_total}
use Rattle.budget_layout.specs.Beside.{beside, beside_out}
use Rattle.budget_layout.specs.Counted.{goal_rows, ordered, rest_rows}
use Rattle.budget_layout.specs.Told.{Report}

module _ (layout : Layout) (columns : ℕ) (style : List ℕ → Style) where
  -- goals, with their totals and averages where these are asked for
  abbrev pub wide : List Row → List Row
  wide goals = map (λ goal. (goal.0, with_total layout columns style goal.1)) goals

  -- the line of a row beside its goals
  abbrev pub budget_line : Row → List Sums → TableLine
  budget_line row goals = table_line.Row row.0 (beside style (with_total layout columns style row.1) goals)

  -- the symbols in which an average or a percentage of its cells can't be told
  abbrev pub line_out : Row → List Sums → List (List ℕ)
  line_out row goals =
      outs_of layout columns style row.1 ++ beside_out (with_total layout columns style row.1) goals

-- the cells of an account's row; none where it has no row
abbrev pub cells_named : List ℕ → List Row → List Sums
cells_named account [] = []
cells_named account (row ∷ rows) = if bytes_eq account row.0 then row.1 else cells_named account rows

module _ (layout : Layout) (columns : ℕ) (style : List ℕ → Style) (actual goals : Report) where
  -- the goals of an account as they are shown
  abbrev pub goals_of : List ℕ → List Sums
  goals_of account = cells_named account (wide layout columns style goals.rows)

  -- the rows of accounts with goals, in their order
  abbrev pub rows_shown : List Row
  rows_shown = ordered layout.order layout.basis (goal_rows columns goals.rows actual.rows)

  -- the row that stands last, without goals
  abbrev pub rest_shown : List Row
  rest_shown = rest_rows columns goals.rows actual.rows

  -- the totals below a rule, unless they are left out
  abbrev pub total_lines : List TableLine
  total_lines =
      if layout.no_total then []
      else table_line.Rule thin
      ∷ budget_line layout columns style ([], actual.totals) (with_total layout columns style goals.totals) ∷ []

  abbrev pub total_out : List (List ℕ)
  total_out =
      if layout.no_total then []
      else line_out layout columns style ([], actual.totals) (with_total layout columns style goals.totals)

  -- the lines below the heads
  abbrev pub body_lines : List TableLine
  body_lines =
      map (λ row. budget_line layout columns style row (goals_of row.0)) rows_shown
      ++ map (λ row. budget_line layout columns style row []) rest_shown
      ++ total_lines

  -- the symbols in which an average or a percentage of the table can't be told
  abbrev pub outs : List (List ℕ)
  outs =
      rows_out layout columns style goals.rows
      ++ totals_out layout columns style goals.totals
      ++ flat_map (λ row. line_out layout columns style row (goals_of row.0)) rows_shown
      ++ flat_map (λ row. line_out layout columns style row []) rest_shown
      ++ total_out

-- the title: of which days
abbrev pub title_of : List Span → List ℕ
title_of columns = codes "Budget performance in " ++ span_text columns ++ codes ":"

-- all lines
abbrev pub all_lines : Layout → (List ℕ → Style) → List Span → Report → Report → List TableLine
all_lines layout style columns actual goals =
    head_line (heads_of layout columns)
    ∷ table_line.Rule thick
    ∷ body_lines layout (length columns) style actual goals

-- The text of a budget.
abbrev pub budget_text : Layout → (List ℕ → Style) → List Span → Report → Report → List ℕ
budget_text layout style columns actual goals =
    title_of columns
    ++ (line_feed ∷ line_feed ∷ [])
    ++ lines_text (length (heads_of layout columns)) (all_lines layout style columns actual goals)

-- the least symbol in which an average or a percentage can't be told
abbrev pub out_of_range : Layout → (List ℕ → Style) → ℕ → Report → Report → Option (List ℕ)
out_of_range layout style columns actual goals = least (outs layout columns style actual goals)
