use Rattle.std.proofs.Common.{◌≡◌, map, take}
use Rattle.book.specs.Styles.{style_in}
use Rattle.report_table.specs.Cells.{cell_text}
use Rattle.report_table.proofs.texts.cell_texts.Given as goal

abbrev pub invariant-loop-cell : goal.invariant-loop-cell
invariant-loop-cell l =
    l.texts.items ≡ map (cell_text (style_in l.styles)) (take l.cell-index l.cells)
