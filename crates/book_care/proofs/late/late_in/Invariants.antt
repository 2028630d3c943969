use Rattle.std.proofs.Common.{◌≡◌, ◌≤◌, length, drop}
use Rattle.book.specs.SumsBefore.{placed_in}
use Rattle.book_care.specs.Late.{gathered}
use Rattle.book_care.proofs.late.late_in.Given as goal

abbrev pub invariant-loop-n : goal.invariant-loop-n
invariant-loop-n l = record {
  within : l.n ≤ length l.postings;
  least : l.least ≡ gathered l.on.0 (placed_in l.txn l.number l.n (drop l.n l.txn.postings)) l.fn.other;
}

abbrev pub decreases-loop-n : goal.decreases-loop-n
decreases-loop-n l = l.n
