use Rattle.std.proofs.Common.{take, drop, []}
use Rattle.balance_rows.specs.Kept.{all_entries}
use Rattle.balance_rows.proofs.KeptLaws.{IsAdding}
use Rattle.balance_rows.proofs.sums.sum_of_cells.Given as goal

abbrev pub invariant-loop-cell : goal.invariant-loop-cell
invariant-loop-cell l = IsAdding [] l.sums (all_entries (take l.cell-index l.cells)) (all_entries (drop l.cell-index l.cells))
