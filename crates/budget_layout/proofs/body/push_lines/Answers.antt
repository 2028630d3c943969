use Rattle.std.proofs.Common.{ℕ, List, [], ◌++◌, map, ◌∙◌}
use Rattle.report_cells.specs.Report.{row_seen, seen}
use Rattle.balance_layouts.specs.Averages.{least_with}
use Rattle.balance_layouts.specs.TableRows.{seen_totals}
use Rattle.budget_layout.specs.Lined.{goals_in, last_lines, last_out, lines_by, outs_by}
use Rattle.budget_layout.specs.OnPage.{layout_on, style_on}
use Rattle.budget_layout.proofs.Lining.{least_then, thrice}
use Rattle.budget_layout.proofs.body.push_lines.Goals as goal

pub push_rows-requires-clause-fits : goal.push_rows-requires-clause-fits
push_rows-requires-clause-fits c = c.requires.fits.of_rows

pub push_rows-requires-2-clause-fits : goal.push_rows-requires-2-clause-fits
push_rows-requires-2-clause-fits c = c.requires.fits.of_rest

pub push_totals-requires-clause-fits : goal.push_totals-requires-clause-fits
push_totals-requires-clause-fits c = c.requires.fits.of_totals

pub returns-clause-lines : goal.returns-clause-lines
returns-clause-lines c =
    let page = c.args.page.now in
    let layout = layout_on page in
    let style = style_on page in
    let rest = map row_seen c.args.actual.rest in
    thrice c.args.lines.now.items c.push_rows.new.lines.items c.push_rows-2.new.lines.items c.push_totals.new.lines.items
    (lines_by layout page.columns style (goals_in c.args.goals.now) (map row_seen c.args.actual.rows))
    (lines_by layout page.columns style (λ account. []) rest)
    (last_lines layout page.columns style (map seen c.args.actual.totals) (seen_totals c.args.goals.now.totals))
    c.in_ok-push_rows.ensures.lines
    (c.in_ok-push_rows-2.ensures.lines
    ∙ (λ i. c.push_rows.new.lines.items ++ lines_by layout page.columns style (λ (account : List ℕ). c.none-none.ensures account i) rest))
    c.in_ok-push_totals.ensures.lines

pub returns-clause-least : goal.returns-clause-least
returns-clause-least c =
    let page = c.args.page.now in
    let layout = layout_on page in
    let style = style_on page in
    let rows = map row_seen c.args.actual.rows in
    let rest = map row_seen c.args.actual.rest in
    let first = outs_by layout page.columns style (goals_in c.args.goals.now) rows in
    let second = outs_by layout page.columns style (λ (account : List ℕ). []) rest in
    let third = last_out layout page.columns style (map seen c.args.actual.totals) (seen_totals c.args.goals.now.totals) in
    least_then c.args.least.now c.push_rows-2.new.least c.push_totals.new.least (first ++ second) third
    (least_then c.args.least.now c.push_rows.new.least c.push_rows-2.new.least first second c.in_ok-push_rows.ensures.least
    (c.in_ok-push_rows-2.ensures.least
    ∙ (λ i. least_with c.push_rows.new.least (outs_by layout page.columns style (λ (account : List ℕ). c.none-none.ensures account i) rest))))
    c.in_ok-push_totals.ensures.least
