use Rattle.std.proofs.Common.{◌≡◌, ◌++◌, map, take}
use Rattle.book.specs.Styles.{style_in}
use Rattle.report_table.specs.Tables.{row_line}
use Rattle.report_table.proofs.lines.push_rows.Given as goal

abbrev pub invariant-loop-name : goal.invariant-loop-name
invariant-loop-name l =
    l.lines.items ≡ l.initial.lines.items ++ map (row_line (style_in l.styles)) (take l.name-index l.rows)
