use Rattle.std.proofs.Common.{List, map, None, ap, ◌∙◌}
use Rattle.book.specs.Styles.{style_in}
use Rattle.report_cells.specs.Report.{row_seen, seen}
use Rattle.report_table.specs.Tables.{table_text}
use Rattle.report_table.specs.declared.table.Section.{Section}
use Rattle.balance_layouts.proofs.TablesLaws.{laid_section}
use Rattle.balance_layouts.proofs.table.table_text.Goals as goal

pub returns-clause-text : goal.returns-clause-text
returns-clause-text c =
    let style = style_in c.args.styles.now in
    let title = c.in_ok-title.title in
    let heads = c.in_ok-heads.heads in
    c.in_ok-table_text.ensures
    ∙ ap (λ (sections : List Section). table_text style (record { title = title; heads = heads; sections = sections; last = None })) c.in_ok-sections.ensures
    ∙ laid_section style c.args.layout.now c.args.columns.now (map row_seen c.args.rows) (map seen c.args.totals) title heads c.in_ok-section.section
    c.in_ok-title.ensures c.in_ok-heads.ensures c.in_ok-section.ensures.section
