use Rattle.std.proofs.Common.{◌≡◌, take}
use Rattle.entry_balance.specs.Tally.{numbers_of}
use Rattle.entry_balance.specs.Entry.{places_among, written_amounts}
use Rattle.entry_balance.proofs.rules.amount_places.Given as goal

abbrev pub invariant-loop-posting : goal.invariant-loop-posting
invariant-loop-posting l = l.most ≡ places_among (numbers_of l.symbol (written_amounts (take l.posting-index l.postings)))
