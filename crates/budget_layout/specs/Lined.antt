-- Lines of rows beside goals that are kept by their places.
use Rattle.std.specs.Prelude.{ℕ, List, [], ◌∷◌, map, Option, Some, None}
use Rattle.std.specs.List.{flat_map}
use Rattle.book.specs.declared.style.Style.{Style}
use Rattle.report_cells.specs.Report.{Sums}
use Rattle.report_table.specs.Tables.{thin}
use Rattle.report_table.specs.declared.lines.TableLine.{TableLine}
use Rattle.report_table.specs.declared.lines.TableLine.TheVariants as table_line
use Rattle.balance_rows.specs.declared.layout.Layout.{Layout}
use Rattle.balance_rows.specs.Rows.{Row}
use Rattle.balance_layouts.specs.TableRows.{named_seen}
use Rattle.budget_layout.specs.Grouped.{cells_at}
use Rattle.budget_layout.specs.Placed.{place_in}
use Rattle.budget_layout.specs.Written.{budget_line, line_out}
use Rattle.budget_layout.specs.declared.goals.GoalCells.{GoalCells}

-- the goals that are kept of an account
abbrev pub goals_in : GoalCells → List ℕ → List Sums
goals_in goals account = cells_at (place_in goals.places account) (map named_seen goals.cells)

-- the lines of rows beside goals by their accounts
abbrev pub lines_by : Layout → ℕ → (List ℕ → Style) → (List ℕ → List Sums) → List Row → List TableLine
lines_by layout columns style goals rows = map (λ row. budget_line layout columns style row (goals row.0)) rows

abbrev pub outs_by : Layout → ℕ → (List ℕ → Style) → (List ℕ → List Sums) → List Row → List (List ℕ)
outs_by layout columns style goals rows = flat_map (λ row. line_out layout columns style row (goals row.0)) rows

-- the totals below a rule, where their goals are shown
abbrev pub last_lines : Layout → ℕ → (List ℕ → Style) → List Sums → Option (List Sums) → List TableLine
last_lines layout columns style totals None = []
last_lines layout columns style totals (Some goals) =
    table_line.Rule thin ∷ budget_line layout columns style ([], totals) goals ∷ []

abbrev pub last_out : Layout → ℕ → (List ℕ → Style) → List Sums → Option (List Sums) → List (List ℕ)
last_out layout columns style totals None = []
last_out layout columns style totals (Some goals) = line_out layout columns style ([], totals) goals
