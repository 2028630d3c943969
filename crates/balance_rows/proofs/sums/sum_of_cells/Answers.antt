use Rattle.std.proofs.Common.{◌<◌, [], length, arith}
use Rattle.balance_rows.proofs.KeptLaws.{cell_added, cell_fits}
use Rattle.balance_rows.proofs.sums.sum_of_cells.Goals as goal

pub add_cell-requires : goal.add_cell-requires
add_cell-requires c =
    let within : c.loop-cell.cell-index < length c.args.cells.now = omega arith in
    cell_fits [] c.loop-cell.sums c.args.cells.now c.loop-cell.cell-index c.cell-item.result within c.cell-item.is c.loop-cell.invariant

pub loop-cell-preserved : goal.loop-cell-preserved
loop-cell-preserved c =
    let within : c.loop-cell.cell-index < length c.args.cells.now = omega arith in
    cell_added [] c.loop-cell.sums c.args.cells.now c.loop-cell.cell-index c.cell-item.result within c.cell-item.is
    c.add_cell.new.sums c.in_ok-add_cell.ensures c.loop-cell.invariant
