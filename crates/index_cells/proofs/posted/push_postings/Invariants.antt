use Rattle.std.proofs.Common.{◌≡◌, ◌++◌, map, take}
use Rattle.book.specs.declared.transaction.Posting.{Posting}
use Rattle.index_cells.specs.Posted.{posted}
use Rattle.index_cells.proofs.posted.push_postings.Given as goal

abbrev pub invariant-loop-posting : goal.invariant-loop-posting
invariant-loop-posting l = l.takings.items ≡ l.initial.takings.items ++ map (λ (posting : Posting). posted (posting, l.txn)) (take l.posting-index l.txn.postings)
