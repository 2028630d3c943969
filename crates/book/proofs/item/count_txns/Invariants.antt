use Rattle.std.proofs.Common.{◌≡◌, ◌≤◌, length, take}
use Rattle.book.specs.Postings.{txns_of}
use Rattle.book.proofs.item.count_txns.Given as goal

abbrev pub invariant-loop-placed : goal.invariant-loop-placed
invariant-loop-placed l = record {
  number : length (txns_of (take l.placed-index l.items)) ≡ l.count;
  few : l.count ≤ l.placed-index;
}
