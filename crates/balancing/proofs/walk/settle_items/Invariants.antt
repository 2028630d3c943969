use Rattle.std.proofs.Common.{◌≡◌}
use Rattle.book.specs.Postings.{txns_of}
use Rattle.balancing.specs.Walk.{IsRead}
use Rattle.balancing.specs.Wanting.{any_wanted}
use Rattle.balancing.proofs.walk.settle_items.Given as goal

abbrev pub invariant-loop-placed : goal.invariant-loop-placed
invariant-loop-placed l = record {
  can : (goal.iterator-loop-placed).can_next l.placed-iterator;
  finite : (goal.iterator-loop-placed).is_finite l.placed-iterator;
  settled : IsRead (txns_of l.yielded) l.entries.txns.items l.entries.causes.items l.entries.groups.items;
  asks : l.entries.asks ≡ any_wanted l.entries.txns.items;
}
