use Rattle.std.proofs.Common.{length}
use Rattle.live_index.proofs.cells.+sums_in_order.Given as goal

abbrev pub decreases-sums_in_order : goal.decreases-sums_in_order
decreases-sums_in_order l = length l.rows.now
