-- Lines as a page shows them.
use Rattle.std.specs.Prelude.{ℕ, List, Option}
use Rattle.report_cells.specs.Report.{Sums}
use Rattle.report_table.specs.declared.lines.TableLine.{TableLine}
use Rattle.balance_rows.specs.Rows.{Row}
use Rattle.budget_layout.specs.Lined.{last_lines, last_out, lines_by, outs_by}
use Rattle.budget_layout.specs.OnPage.{layout_on, style_on}
use Rattle.budget_layout.specs.Told.{Report}
use Rattle.budget_layout.specs.Written.{body_lines, budget_line, line_out, outs}
use Rattle.budget_layout.specs.declared.page.Page.{Page}

-- a row beside its goals
abbrev pub line_on : Page → Row → List Sums → TableLine
line_on page row goals = budget_line (layout_on page) page.columns (style_on page) row goals

abbrev pub line_out_on : Page → Row → List Sums → List (List ℕ)
line_out_on page row goals = line_out (layout_on page) page.columns (style_on page) row goals

-- rows beside the goals of their accounts
abbrev pub lines_on : Page → (List ℕ → List Sums) → List Row → List TableLine
lines_on page goals rows = lines_by (layout_on page) page.columns (style_on page) goals rows

abbrev pub outs_on : Page → (List ℕ → List Sums) → List Row → List (List ℕ)
outs_on page goals rows = outs_by (layout_on page) page.columns (style_on page) goals rows

-- totals beside those of the goals
abbrev pub last_on : Page → List Sums → Option (List Sums) → List TableLine
last_on page totals goals = last_lines (layout_on page) page.columns (style_on page) totals goals

abbrev pub last_out_on : Page → List Sums → Option (List Sums) → List (List ℕ)
last_out_on page totals goals = last_out (layout_on page) page.columns (style_on page) totals goals

-- all lines below the heads
abbrev pub body_on : Page → Report → Report → List TableLine
body_on page actual goals = body_lines (layout_on page) page.columns (style_on page) actual goals

abbrev pub body_out_on : Page → Report → Report → List (List ℕ)
body_out_on page actual goals = outs (layout_on page) page.columns (style_on page) actual goals
