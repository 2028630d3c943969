use Rattle.std.proofs.Common.{◌≡◌, true, take}
use Rattle.std.specs.List.{list_all}
use Rattle.index_cells.specs.Posted.{is_early}
use Rattle.index_cells.proofs.dated.is_dated.Given as goal

abbrev pub invariant-loop-posting : goal.invariant-loop-posting
invariant-loop-posting l = list_all (is_early l.txn) (take l.posting-index l.txn.postings) ≡ true
