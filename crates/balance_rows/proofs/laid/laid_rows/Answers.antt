use Rattle.std.proofs.Common.{List, map, sym, ap, subst, ◌∙◌, rules}
use Rattle.std.specs.List.{AllByRecursion}
use Rattle.report_cells.specs.Report.{row_seen}
use Rattle.report_cells.specs.declared.cells.CellRow.{CellRow}
use Rattle.balance_rows.specs.Fitting.{ColumnsFit, RowFits}
use Rattle.balance_rows.proofs.Laying.{shown_columns, shown_totals}
use Rattle.balance_rows.proofs.laid.laid_rows.Goals as goal

pub sorted_rows-requires : goal.sorted_rows-requires
sorted_rows-requires c = λ changes.
    subst (AllByRecursion RowFits) (sym c.in_ok-shown.ensures)
    (shown_totals c.args.layout.now.empty (map row_seen c.args.rows) (c.requires.totals (search rules) changes))

pub tree_rows-requires : goal.tree_rows-requires
tree_rows-requires c =
    subst ColumnsFit (sym (ap (map row_seen) c.as_slice.ensures ∙ c.in_ok-shown.ensures))
    (shown_columns c.args.layout.now.empty (map row_seen c.args.rows) (c.requires.tree (search rules)))
