use Rattle.std.proofs.Common.{◌*◌, length, take}
use Rattle.index_cells.specs.Asks.{AsksFor, nodes_of_cell}
use Rattle.index_cells.specs.Held.{HoldsRows, most_of, summed_in}
use Rattle.index_cells.proofs.rows.named_rows.Given as goal

abbrev pub invariant-loop-account : goal.invariant-loop-account
invariant-loop-account g l = record {
  rows : HoldsRows (summed_in l.kept l.plan.reach l.plan.days) (most_of l.kept) l.plan.columns.now l.rows.items (take l.account-index l.kept.accounts);
  asked : AsksFor (nodes_of_cell l.kept * length l.plan.columns.now * l.account-index) l.initial.steps l.steps;
}
