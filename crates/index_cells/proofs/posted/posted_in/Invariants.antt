use Rattle.std.proofs.Common.{◌≡◌, take}
use Rattle.index_cells.specs.Posted.{posted_in}
use Rattle.index_cells.proofs.posted.posted_in.Given as goal

abbrev pub invariant-loop-txn : goal.invariant-loop-txn
invariant-loop-txn l = l.takings.items ≡ posted_in (take l.txn-index l.txns)
