use Rattle.std.proofs.Common.{map, ◌∙◌}
use Rattle.report_cells.specs.Report.{row_seen, seen}
use Rattle.statements.specs.OnPage.{layout_on, style_on}
use Rattle.statements.proofs.Alike.{section_is}
use Rattle.statements.proofs.sections.section.Goals as goal

pub returns-clause-section : goal.returns-clause-section
returns-clause-section c =
    let page = c.args.page.now in
    section_is (layout_on page) page.columns (style_on page) c.args.part (map row_seen c.args.rows) (map seen c.args.totals)
    c.in_ok-name.name (map row_seen c.in_ok-laid.laid) c.in_ok-made.made c.in_ok-shown.shown
    (c.in_ok-name.ensures ∙ c.name.ensures) c.in_ok-laid.ensures c.in_ok-made.ensures.rows c.in_ok-shown.ensures.totals
