use Rattle.std.proofs.Common.{◌≡◌, ◌≤◌, length, take}
use Rattle.book_laws.specs.Writing.{symbols_at}
use Rattle.kept_books.specs.Gathering.{with_all}
use Rattle.kept_books.proofs.Renewing.{lent_of}
use Rattle.kept_books.proofs.gathering.put_entries.Given as goal

abbrev pub invariant-loop-at : goal.invariant-loop-at
invariant-loop-at l = record {
  bound : l.at ≤ length l.txns;
  put : with_all l.found.keys (symbols_at (take l.at (lent_of l.txns))) ≡ with_all l.fn.found.keys (symbols_at (lent_of l.txns));
}

abbrev pub decreases-loop-at : goal.decreases-loop-at
decreases-loop-at l = l.at
