use Rattle.std.proofs.Common.{◌≡◌, ℕ, List, ◌++◌, Option, map, sym, ap, subst, ◌∙◌}
use Rattle.std.proofs.lemmas.Result.{err_from_is_err_and}
use Rattle.report_cells.specs.declared.cells.CellRow.{CellRow}
use Rattle.report_cells.specs.Report.{row_seen, seen}
use Rattle.report_table.specs.declared.lines.TableLine.{TableLine}
use Rattle.balance_layouts.specs.Averages.{least}
use Rattle.balance_layouts.specs.Balance.{IsFault}
use Rattle.balance_layouts.specs.TableRows.{named_seen, seen_totals}
use Rattle.balance_layouts.specs.Totals.{with_total}
use Rattle.budget_layout.specs.Counted.{goal_rows, ordered, rest_rows}
use Rattle.budget_layout.specs.Grouped.{names_of, place_from}
use Rattle.budget_layout.specs.Lined.{goals_in}
use Rattle.budget_layout.specs.OnPage.{layout_on, style_on}
use Rattle.budget_layout.specs.Placed.{place_in}
use Rattle.budget_layout.specs.declared.places.Places.{Places}
use Rattle.budget_layout.specs.Told.{told_by}
use Rattle.budget_layout.proofs.Fitted.{lines_fit}
use Rattle.budget_layout.proofs.Whole.{body_is, goals_are, out_is}
use Rattle.budget_layout.proofs.body.push_body.Goals as goal

pub budget_rows-requires-clause-places : goal.budget_rows-requires-clause-places
budget_rows-requires-clause-places c = λ name.
    c.in_ok-places.ensures name ∙ ap (λ (rows : List CellRow). place_from 0 (names_of rows) name) (c.as_slice.ensures ∙ sym c.as_slice-2.ensures)

pub budget_rows-requires-clause-fits : goal.budget_rows-requires-clause-fits
budget_rows-requires-clause-fits c = record { columns = c.requires.fits.columns; ranks = c.requires.fits.ranks }

pub push_lines-requires-clause-fits : goal.push_lines-requires-clause-fits
push_lines-requires-clause-fits c =
    let page = c.args.page.now in
    let goals = c.args.goals in
    lines_fit (layout_on page) page.columns (told_by c.args.cells) (map row_seen goals.rows) (map row_seen c.in_ok-actual.actual.rows) (map row_seen c.in_ok-actual.actual.rest)
    (map seen c.in_ok-actual.actual.totals) (with_total (layout_on page) page.columns (style_on page) (map seen goals.totals)) (seen_totals c.in_ok-wide.wide.totals)
    c.requires.fits
    (c.in_ok-actual.ensures.rows ∙ ap (λ (rows : List CellRow). ordered (layout_on page).order (layout_on page).basis (goal_rows page.columns (map row_seen rows) (map row_seen c.args.cells.rows))) c.as_slice-2.ensures)
    (c.in_ok-actual.ensures.rest ∙ ap (λ (rows : List CellRow). rest_rows page.columns (map row_seen rows) (map row_seen c.args.cells.rows)) c.as_slice-2.ensures)
    (ap (map seen) c.in_ok-actual.ensures.totals) c.in_ok-wide.ensures.totals

pub returns-clause-lines : goal.returns-clause-lines
returns-clause-lines c =
    let page = c.args.page.now in
    let layout = layout_on page in
    let style = style_on page in
    let goals = c.args.goals in
    let placed : (name : List ℕ) → place_in c.in_ok-wide.wide.places name ≡ place_from 0 (names_of goals.rows) name =
    λ name. ap (λ (places : Places). place_in places name) c.in_ok-wide.ensures.places ∙ c.in_ok-places.ensures name ∙ ap (λ (rows : List CellRow). place_from 0 (names_of rows) name) c.as_slice.ensures in
    c.in_ok-push_lines.ensures.lines
    ∙ ap (λ (t : List TableLine). c.args.lines.now.items ++ t)
    (body_is layout page.columns style (told_by c.args.cells) (told_by goals) (goals_in c.in_ok-wide.wide)
    (map row_seen c.in_ok-actual.actual.rows) (map row_seen c.in_ok-actual.actual.rest) (map seen c.in_ok-actual.actual.totals) (seen_totals c.in_ok-wide.wide.totals)
    (goals_are layout page.columns style goals.rows (place_in c.in_ok-wide.wide.places) (map named_seen c.in_ok-wide.wide.cells) placed c.in_ok-wide.ensures.cells)
    (c.in_ok-actual.ensures.rows ∙ ap (λ (rows : List CellRow). ordered layout.order layout.basis (goal_rows page.columns (map row_seen rows) (map row_seen c.args.cells.rows))) c.as_slice-2.ensures)
    (c.in_ok-actual.ensures.rest ∙ ap (λ (rows : List CellRow). rest_rows page.columns (map row_seen rows) (map row_seen c.args.cells.rows)) c.as_slice-2.ensures)
    (ap (map seen) c.in_ok-actual.ensures.totals) c.in_ok-wide.ensures.totals)

pub returns-clause-told : goal.returns-clause-told
returns-clause-told c =
    let page = c.args.page.now in
    let layout = layout_on page in
    let style = style_on page in
    let goals = c.args.goals in
    let placed : (name : List ℕ) → place_in c.in_ok-wide.wide.places name ≡ place_from 0 (names_of goals.rows) name =
    λ name. ap (λ (places : Places). place_in places name) c.in_ok-wide.ensures.places ∙ c.in_ok-places.ensures name ∙ ap (λ (rows : List CellRow). place_from 0 (names_of rows) name) c.as_slice.ensures in
    sym (out_is layout page.columns style (told_by c.args.cells) (told_by goals) (goals_in c.in_ok-wide.wide)
    (map row_seen c.in_ok-actual.actual.rows) (map row_seen c.in_ok-actual.actual.rest) (map seen c.in_ok-actual.actual.totals) (seen_totals c.in_ok-wide.wide.totals)
    (goals_are layout page.columns style goals.rows (place_in c.in_ok-wide.wide.places) (map named_seen c.in_ok-wide.wide.cells) placed c.in_ok-wide.ensures.cells)
    (c.in_ok-actual.ensures.rows ∙ ap (λ (rows : List CellRow). ordered layout.order layout.basis (goal_rows page.columns (map row_seen rows) (map row_seen c.args.cells.rows))) c.as_slice-2.ensures)
    (c.in_ok-actual.ensures.rest ∙ ap (λ (rows : List CellRow). rest_rows page.columns (map row_seen rows) (map row_seen c.args.cells.rows)) c.as_slice-2.ensures)
    (ap (map seen) c.in_ok-actual.ensures.totals) c.in_ok-wide.ensures.totals
    c.wide_goals.new.least c.push_lines.new.least c.in_ok-wide.ensures.least c.in_ok-push_lines.ensures.least)
    ∙ c.in_ok-check_averages.ensures.told

pub returns-in_err-check_averages-clause-fault : goal.returns-in_err-check_averages-clause-fault
returns-in_err-check_averages-clause-fault c =
    let page = c.args.page.now in
    let layout = layout_on page in
    let style = style_on page in
    let goals = c.args.goals in
    let placed : (name : List ℕ) → place_in c.in_ok-wide.wide.places name ≡ place_from 0 (names_of goals.rows) name =
    λ name. ap (λ (places : Places). place_in places name) c.in_ok-wide.ensures.places ∙ c.in_ok-places.ensures name ∙ ap (λ (rows : List CellRow). place_from 0 (names_of rows) name) c.as_slice.ensures in
    let chain = out_is layout page.columns style (told_by c.args.cells) (told_by goals) (goals_in c.in_ok-wide.wide)
    (map row_seen c.in_ok-actual.actual.rows) (map row_seen c.in_ok-actual.actual.rest) (map seen c.in_ok-actual.actual.totals) (seen_totals c.in_ok-wide.wide.totals)
    (goals_are layout page.columns style goals.rows (place_in c.in_ok-wide.wide.places) (map named_seen c.in_ok-wide.wide.cells) placed c.in_ok-wide.ensures.cells)
    (c.in_ok-actual.ensures.rows ∙ ap (λ (rows : List CellRow). ordered layout.order layout.basis (goal_rows page.columns (map row_seen rows) (map row_seen c.args.cells.rows))) c.as_slice-2.ensures)
    (c.in_ok-actual.ensures.rest ∙ ap (λ (rows : List CellRow). rest_rows page.columns (map row_seen rows) (map row_seen c.args.cells.rows)) c.as_slice-2.ensures)
    (ap (map seen) c.in_ok-actual.ensures.totals) c.in_ok-wide.ensures.totals
    c.wide_goals.new.least c.push_lines.new.least c.in_ok-wide.ensures.least c.in_ok-push_lines.ensures.least in
    let p = err_from_is_err_and c.from_residual-in_err-check_averages.result c.from_residual-in_err-check_averages.ensures.1 in
    rw (p.1, p.2) (subst (λ (out : Option (List ℕ)). IsFault out c.in_err-check_averages.field-0.0) chain c.in_err-check_averages.ensures.fault)
