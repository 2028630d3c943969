use Rattle.std.proofs.Common.{◌≡◌, ◌++◌}
use Rattle.book.specs.Postings.{txns_of}
use Rattle.generated.proofs.judging.place_all.Given as goal

abbrev pub invariant-loop-txn : goal.invariant-loop-txn
invariant-loop-txn l = record {
  can : (goal.iterator-loop-txn).can_next l.txn-iterator;
  finite : (goal.iterator-loop-txn).is_finite l.txn-iterator;
  placed : txns_of l.items.items ≡ txns_of l.initial.items.items ++ l.yielded;
}
