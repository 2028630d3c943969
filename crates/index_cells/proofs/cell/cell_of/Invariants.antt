use Rattle.std.proofs.Common.{◌*◌}
use Rattle.index_cells.specs.Asks.{AsksFor}
use Rattle.index_cells.proofs.Celling.{Celled}
use Rattle.index_cells.proofs.cell.cell_of.Given as goal

abbrev pub invariant-loop-symbol : goal.invariant-loop-symbol
invariant-loop-symbol g l = record {
  celled : Celled l.kept l.account l.days l.sums l.symbol-index;
  asked : AsksFor (44 * l.symbol-index) l.initial.steps l.steps;
}
