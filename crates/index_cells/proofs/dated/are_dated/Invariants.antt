use Rattle.std.proofs.Common.{◌≡◌, true, take}
use Rattle.std.specs.List.{list_all}
use Rattle.index_cells.specs.Posted.{is_dated}
use Rattle.index_cells.proofs.dated.are_dated.Given as goal

abbrev pub invariant-loop-txn : goal.invariant-loop-txn
invariant-loop-txn l = list_all is_dated (take l.txn-index l.txns) ≡ true
