use Rattle.std.proofs.Common.{◌≡◌, map, take}
use Rattle.book.specs.Styles.{style_in}
use Rattle.report_cells.specs.Report.{row_seen}
use Rattle.balance_rows.specs.Layouts.{name_in}
use Rattle.balance_layouts.specs.Shown.{printed_row}
use Rattle.balance_layouts.proofs.shown.printed_rows.Given as goal

abbrev pub invariant-loop-row : goal.invariant-loop-row
invariant-loop-row l =
    l.shown.items ≡ map (printed_row (name_in l.order) (style_in l.styles)) (map row_seen (take l.row-index l.rows))
