use Rattle.std.proofs.Common.{◌≡◌, length, take}
use Rattle.book.specs.Postings.{postings_of}
use Rattle.rule_entries.specs.Counted.{told}
use Rattle.rule_entries.specs.Making.{made_of}
use Rattle.rule_entries.proofs.counting.posting_count.Given as goal

abbrev pub invariant-loop-placed : goal.invariant-loop-placed
invariant-loop-placed l = l.count ≡ told (length (postings_of (made_of l.window (take l.placed-index l.placed-items))))
