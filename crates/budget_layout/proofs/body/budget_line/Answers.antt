use Rattle.std.proofs.Common.{List, map, ap, ◌∙◌}
use Rattle.report_cells.specs.Report.{Sums, seen}
use Rattle.report_table.specs.declared.lines.TableLine.TheVariants as table_line
use Rattle.balance_layouts.specs.Averages.{least_with}
use Rattle.balance_layouts.specs.Totals.{outs_of, with_total}
use Rattle.budget_layout.specs.Beside.{beside, beside_out}
use Rattle.budget_layout.specs.OnPage.{layout_on, style_on}
use Rattle.budget_layout.proofs.Lining.{least_then}
use Rattle.budget_layout.proofs.body.budget_line.Goals as goal

pub returns-clause-line : goal.returns-clause-line
returns-clause-line c =
    let style = style_on c.args.page.now in
    let goals = map seen c.args.goals.now in
    let texts = c.in_ok-texts.ensures.texts ∙ ap (λ (cells : List Sums). beside style cells goals) (ap (map seen) c.as_slice.ensures ∙ c.in_ok-cells.ensures.cells) in
    λ i. table_line.Row (c.new.ensures i) (texts i)

pub returns-clause-least : goal.returns-clause-least
returns-clause-least c =
    let page = c.args.page.now in
    let cells = map seen c.args.row.cells in
    let goals = map seen c.args.goals.now in
    least_then c.args.least.now c.with_total.new.least c.beside.new.least (outs_of (layout_on page) page.columns (style_on page) cells)
    (beside_out (with_total (layout_on page) page.columns (style_on page) cells) goals) c.in_ok-cells.ensures.least
    (c.in_ok-texts.ensures.least
    ∙ ap (λ (made : List Sums). least_with c.with_total.new.least (beside_out made goals)) (ap (map seen) c.as_slice.ensures ∙ c.in_ok-cells.ensures.cells))
