use Rattle.std.proofs.Common.{Bool, map, sym, ap, ◌∙◌}
use Rattle.report_cells.specs.Report.{row_seen}
use Rattle.balance_rows.specs.Rows.{shown_rows}
use Rattle.balance_rows.proofs.RowsLaws.{shown-all}
use Rattle.balance_rows.proofs.rows.shown_rows.Goals as goal

pub returns-then-empty : goal.returns-then-empty
returns-then-empty c =
    sym (ap (λ (empty : Bool). shown_rows empty (map row_seen c.args.rows)) c.if-empty.true ∙ shown-all (map row_seen c.args.rows))
