use Rattle.std.proofs.Common.{◌≡◌, ℕ, List, Option, IfErr, length, map, ap, subst, ◌∙◌}
use Rattle.hl_time.specs.declared.spans.Span.{Span}
use Rattle.book.specs.Styles.{style_in}
use Rattle.report_cells.specs.Report.{row_seen, seen}
use Rattle.balance_layouts.specs.Balance.{IsFault, balance_text}
use Rattle.balance_layouts.specs.Tables.{balance_table}
use Rattle.balance_layouts.specs.Totals.{first_out}
use Rattle.balance_layouts.proofs.Answering.{if_ok, out_laid, table_laid}
use Rattle.balance_layouts.proofs.balance.balance_text.Goals as goal

pub returns-then-layout-clause-text : goal.returns-then-layout-clause-text
returns-then-layout-clause-text c =
    let style = style_in c.args.styles.now in
    let layout = c.args.layout.now in
    let cells = c.args.cells in
    let totals = map seen cells.totals in
    let laid = map row_seen c.in_ok-rows.rows in
    if_ok c.table_text.result (λ text. text ≡ balance_table layout style c.as_slice.result.now laid totals)
    (λ text. text ≡ balance_text layout style cells.columns (map row_seen cells.rows) totals)
    (λ text made.
    made ∙ ap (λ (columns : List Span). balance_table layout style columns laid totals) c.as_slice.ensures
    ∙ table_laid layout style cells.columns (map row_seen cells.rows) laid totals c.len.result c.if-layout.true c.len.ensures c.in_ok-rows.ensures)
    c.table_text.ensures.text

pub returns-then-layout-clause-fault : goal.returns-then-layout-clause-fault
returns-then-layout-clause-fault c =
    let style = style_in c.args.styles.now in
    let layout = c.args.layout.now in
    let cells = c.args.cells in
    let totals = map seen cells.totals in
    let laid = map row_seen c.in_ok-rows.rows in
    subst (λ (out : Option (List ℕ)). IfErr c.table_text.result (IsFault out))
    (ap (λ (columns : List Span). first_out layout (length columns) style laid totals) c.as_slice.ensures
    ∙ out_laid layout style cells.columns (map row_seen cells.rows) laid totals c.len.result c.if-layout.true c.len.ensures c.in_ok-rows.ensures)
    c.table_text.ensures.fault
