use Rattle.std.proofs.Common.{◌≡◌, ◌++◌, take}
use Rattle.std.specs.List.{flat_map}
use Rattle.placed_sums.specs.Rows.{rows_of_posting}
use Rattle.placed_sums.proofs.rows.push_txn.Given as goal

abbrev pub invariant-loop-posting : goal.invariant-loop-posting
invariant-loop-posting l = l.rows.items ≡ l.initial.rows.items ++ flat_map (rows_of_posting l.txn) (take l.posting-index l.txn.postings)
