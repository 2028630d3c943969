-- The budget of a report: what it sums, beside the goals that the periodic rules of its text make.
use Rattle.std.specs.Prelude.{ℕ, List, length, Some, Result}
use Rattle.hl_time.specs.declared.spans.Period.{Period}
use Rattle.hl_time.specs.declared.spans.Span.{Span}
use Rattle.book.specs.declared.style.Style.{Style}
use Rattle.book.specs.declared.transaction.Txn.{Txn}
use Rattle.balance_rows.specs.declared.layout.Layout.{Layout}
use Rattle.budget_layout.specs.Told.{Report as Budgeted}
use Rattle.budget_layout.specs.Written.{budget_text, out_of_range}
use Rattle.report_cells.specs.declared.fault.ReportFault.{ReportFault}
use Rattle.report_options.specs.declared.options.Options.{Options}
use Rattle.report_sums.specs.Celled.{Celled, cells_of, unless}
use Rattle.report_sums.specs.Matters.{Matter}
use Rattle.report_commands.specs.Answered.{◌>>=◌, few}
use Rattle.report_commands.specs.Layouts.{layout_of}
use Rattle.plan_commands.specs.Bounds.{with_bounds}
use Rattle.plan_commands.specs.Columns.{goal_span}

-- the bounds of these days, with the interval of the options
abbrev pub bounds_of : Options → Span → Period
bounds_of options span = record { from = Some span.from; end = Some span.end; interval = options.bounds.interval }

-- the same question over the goals of these days, by the same query, with these days as its bounds
abbrev pub goal_matter : Matter → Span → List Txn → Matter
goal_matter m span goals = record m {
  asked = record (m.asked) { txns = goals; options = with_bounds m.asked.options (bounds_of m.asked.options span) };
}

-- the sums of goals by these columns
abbrev pub goal_cells : Matter → List Span → List Txn → Result Celled ReportFault
goal_cells m columns goals = cells_of (goal_matter m (goal_span columns) goals) columns

abbrev pub as_budgeted : Celled → Budgeted
as_budgeted cells = record { rows = cells.rows; totals = cells.totals }

-- the budget of some sums beside goals, unless an average or a percentage can't be told
abbrev pub laid_budget : Layout → (List ℕ → Style) → List Span → Celled → Celled → Result (List ℕ) ReportFault
laid_budget layout style columns actual goals =
    unless (out_of_range layout style (length columns) (as_budgeted actual) (as_budgeted goals))
    (budget_text layout style columns (as_budgeted actual) (as_budgeted goals))

-- beside goals that are summed by the same columns
abbrev pub beside_goals : Matter → List Span → List Txn → Celled → Result (List ℕ) ReportFault
beside_goals m columns goals actual =
    goal_cells m columns goals >>= laid_budget (layout_of m.asked.options) m.style columns actual

-- the sums of a report, beside those goals
abbrev pub summed_budget : Matter → List Txn → List Span → Result (List ℕ) ReportFault
summed_budget m goals columns = cells_of m columns >>= beside_goals m columns goals

-- The budget of a report by these columns, unless they are too many.
abbrev pub budget_of : Matter → List Span → List Txn → Result (List ℕ) ReportFault
budget_of m columns goals = few columns >>= summed_budget m goals
