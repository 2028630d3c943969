use Rattle.std.proofs.Common.{ap, ◌∙◌}
use Rattle.report_cells.specs.Report.{seen}
use Rattle.balance_rows.proofs.Fits.{can_add_cells, cells_sum}
use Rattle.balance_rows.proofs.totals.total_of.Goals as goal

pub sum_of_cells-requires : goal.sum_of_cells-requires
sum_of_cells-requires c = can_add_cells c.args.cells.now c.requires

pub returns : goal.returns
returns c = ap seen c.in_ok-total.ensures ∙ cells_sum c.args.cells.now c.requires
