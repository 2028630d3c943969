use Rattle.std.proofs.Common.{map, ◌∙◌}
use Rattle.report_cells.specs.Report.{row_seen, seen}
use Rattle.book_care.specs.Asked.{asked_of}
use Rattle.book_care.proofs.Closings.{closing_is, settled_by}
use Rattle.book_care.proofs.close.close_entries.Goals as goal

pub judged_entries-requires-clause-lines : goal.judged_entries-requires-clause-lines
judged_entries-requires-clause-lines c =
    c.deref.ensures.value
    ∙ closing_is (asked_of c.args.closing.now) (map row_seen c.in_ok-cells.cells.rows) (map seen c.in_ok-cells.cells.totals) c.in_ok-lines.lines.items c.in_ok-cells.ensures.rows c.in_ok-cells.ensures.totals c.in_ok-lines.ensures

pub returns-clause-settles : goal.returns-clause-settles
returns-clause-settles c = settled_by (asked_of c.args.closing.now) c.judged_entries.result c.judged_entries.ensures.entries
