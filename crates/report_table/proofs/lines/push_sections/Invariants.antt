use Rattle.std.proofs.Common.{◌≡◌, ◌++◌, take}
use Rattle.std.specs.List.{flat_map}
use Rattle.book.specs.Styles.{style_in}
use Rattle.report_table.specs.Tables.{block_lines}
use Rattle.report_table.proofs.lines.push_sections.Given as goal

abbrev pub invariant-loop-section : goal.invariant-loop-section
invariant-loop-section l =
    l.lines.items ≡ l.initial.lines.items ++ flat_map (block_lines (style_in l.styles) l.columns) (take l.section-index l.sections)
