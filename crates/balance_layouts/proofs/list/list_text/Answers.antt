use Rattle.std.proofs.Common.{◌≡◌, ℕ, List, map, IfOk, subst}
use Rattle.std.specs.List.{flat_map}
use Rattle.book.specs.Styles.{style_in}
use Rattle.report_cells.specs.Report.{row_seen, seen}
use Rattle.report_table.specs.Cells.{widest}
use Rattle.balance_layouts.specs.Lists.{balance_list, least_columns, list_above}
use Rattle.balance_layouts.specs.Shown.{Printed}
use Rattle.balance_layouts.proofs.Answering.{if_ok}
use Rattle.balance_layouts.proofs.Widths.{list_from_parts}
use Rattle.balance_layouts.proofs.list.list_text.Goals as goal

abbrev Above : List Printed → List (List ℕ) → List ℕ → Type 0
Above rows total text = text ≡ list_above (widest (widest least_columns total) (flat_map (λ (row : Printed). row.1) rows)) rows total

pub returns : goal.returns
returns c =
    let style = style_in c.args.styles.now in
    let layout = c.args.layout.now in
    let rows = map row_seen c.args.rows.now in
    let totals = map seen c.args.totals.now in
    let shown : List Printed = c.in_ok-shown.shown.items in
    let total : List (List ℕ) = c.in_ok-total.total.items in
    let above = subst (λ (ps : List Printed). IfOk c.rows_above.result (Above ps c.as_slice-3.result.now)) c.as_slice-2.ensures.value c.rows_above.ensures in
    let made = subst (λ (ts : List (List ℕ)). IfOk c.rows_above.result (Above shown ts)) c.as_slice-3.ensures.value above in
    if_ok c.rows_above.result (Above shown total) (λ text. text ≡ balance_list layout style rows totals)
    (λ text here. list_from_parts style layout rows totals shown total text c.if-layout.false c.in_ok-shown.ensures c.in_ok-total.ensures here)
    made
