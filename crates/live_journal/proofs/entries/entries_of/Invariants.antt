use Rattle.std.proofs.Common.{◌≡◌, take}
use Rattle.book.specs.Postings.{txns_of}
use Rattle.live_journal.proofs.entries.entries_of.Given as goal

abbrev pub invariant-loop-placed : goal.invariant-loop-placed
invariant-loop-placed l = txns_of l.copies.items ≡ txns_of (take l.placed-index l.items)
