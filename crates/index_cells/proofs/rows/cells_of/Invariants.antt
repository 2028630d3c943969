use Rattle.std.proofs.Common.{◌*◌, take}
use Rattle.index_cells.specs.Asks.{AsksFor, nodes_of_cell}
use Rattle.index_cells.specs.Held.{HoldsRow, most_of, summed_in}
use Rattle.index_cells.proofs.rows.cells_of.Given as goal

abbrev pub invariant-loop-column : goal.invariant-loop-column
invariant-loop-column g l = record {
  cells : HoldsRow (summed_in l.kept l.plan.reach l.plan.days l.account) (most_of l.kept) l.cells.items (take l.column-index l.columns);
  asked : AsksFor (nodes_of_cell l.kept * l.column-index) l.initial.steps l.steps;
}
