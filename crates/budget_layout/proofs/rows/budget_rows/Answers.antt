use Rattle.std.proofs.Common.{false, List, [], ◌∷◌, codes, map, length, is_none, refl, ap, ◌∙◌}
use Rattle.report_cells.specs.Report.{row_seen}
use Rattle.balance_rows.specs.Rows.{Row, shown_rows}
use Rattle.balance_rows.specs.Trees.{column_sums}
use Rattle.budget_layout.specs.Counted.{counts_for, is_for, ordered}
use Rattle.budget_layout.specs.Grouped.{rows_at}
use Rattle.budget_layout.specs.OnPage.{layout_on}
use Rattle.budget_layout.specs.Placed.{place_in}
use Rattle.budget_layout.proofs.Fitted.{filter_fits, ranks_fit}
use Rattle.budget_layout.proofs.Linked.{goal_rows_are, rest_is, rows_named}
use Rattle.budget_layout.proofs.Placing.{placed_below}
use Rattle.budget_layout.proofs.rows.budget_rows.Goals as goal

pub grouped-requires : goal.grouped-requires
grouped-requires c = λ name. placed_below c.args.goals.now (place_in c.args.places.now) (length c.args.goals.now) c.requires.places refl name

pub goal_rows-requires : goal.goal_rows-requires
goal_rows-requires c = λ name.
    let goals = map row_seen c.args.goals.now in
    let place = place_in c.args.places.now in
    let grouped = c.as_slice.ensures.value ∙ c.in_ok-groups.ensures.groups in
    filter_fits (λ (row : Row). is_for name (counts_for goals row.0)) (map row_seen c.args.rows) (map row_seen (rows_at (place name) c.as_slice.result.now))
    (rows_named c.args.goals.now place c.requires.places c.args.rows c.as_slice.result.now grouped name) c.requires.fits.columns

pub rest_rows-requires : goal.rest_rows-requires
rest_rows-requires c =
    let goals = map row_seen c.args.goals.now in
    let place = place_in c.args.places.now in
    filter_fits (λ (row : Row). is_none (counts_for goals row.0)) (map row_seen c.args.rows) (map row_seen c.rows.result.now)
    (ap (map row_seen) (c.rows.ensures ∙ c.in_ok-groups.ensures.rest) ∙ rest_is c.args.goals.now place c.requires.places c.args.rows) c.requires.fits.columns

pub in_order-requires : goal.in_order-requires
in_order-requires c =
    let place = place_in c.args.places.now in
    let grouped = c.as_slice.ensures.value ∙ c.in_ok-groups.ensures.groups in
    ranks_fit (layout_on c.args.page.now) c.args.page.now.columns (map row_seen c.args.goals.now) (map row_seen c.args.rows) (map row_seen c.in_ok-made.made)
    (c.in_ok-made.ensures ∙ goal_rows_are c.args.goals.now place c.requires.places c.args.rows c.as_slice.result.now grouped c.args.page.now.columns) c.requires.fits.ranks

pub returns-clause-rows : goal.returns-clause-rows
returns-clause-rows c =
    let place = place_in c.args.places.now in
    let layout = layout_on c.args.page.now in
    let grouped = c.as_slice.ensures.value ∙ c.in_ok-groups.ensures.groups in
    c.in_ok-rows.ensures
    ∙ ap (ordered layout.order layout.basis)
    (c.in_ok-made.ensures ∙ goal_rows_are c.args.goals.now place c.requires.places c.args.rows c.as_slice.result.now grouped c.args.page.now.columns)

pub returns-clause-rest : goal.returns-clause-rest
returns-clause-rest c =
    let place = place_in c.args.places.now in
    c.in_ok-rest.ensures
    ∙ ap (λ (rows : List Row). shown_rows false ((codes "<unbudgeted>", column_sums c.args.page.now.columns rows) ∷ []))
    (ap (map row_seen) (c.rows.ensures ∙ c.in_ok-groups.ensures.rest) ∙ rest_is c.args.goals.now place c.requires.places c.args.rows)
