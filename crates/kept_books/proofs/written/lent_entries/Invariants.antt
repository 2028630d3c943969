use Rattle.std.proofs.Common.{◌≡◌, map, take}
use Rattle.book.specs.Postings.{txns_of}
use Rattle.kept_books.proofs.written.lent_entries.Given as goal

abbrev pub invariant-loop-placed : goal.invariant-loop-placed
invariant-loop-placed l = map (λ t. t.now) l.lent.items ≡ txns_of (take l.placed-index l.items)
