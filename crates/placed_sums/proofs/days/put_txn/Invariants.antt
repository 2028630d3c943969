use Rattle.std.proofs.Common.{◌≡◌, true, drop}
use Rattle.placed_sums.specs.Days.{rise}
use Rattle.placed_sums.specs.Placing.{with_postings}
use Rattle.placed_sums.proofs.days.put_txn.Given as goal

abbrev pub invariant-loop-posting : goal.invariant-loop-posting
invariant-loop-posting l = record {
  rise : rise l.places.items ≡ true;
  rest : with_postings l.number l.txn l.places.items (drop l.posting-index l.txn.postings) ≡ with_postings l.number l.txn l.initial.places.items l.txn.postings;
}
