use Rattle.std.proofs.Common.{◌≡◌, take}
use Rattle.entry_balance.specs.Tally.{numbers_of}
use Rattle.entry_balance.specs.Entry.{places_among, written_costs}
use Rattle.entry_balance.proofs.rules.cost_places.Given as goal

abbrev pub invariant-loop-posting : goal.invariant-loop-posting
invariant-loop-posting l = l.most ≡ places_among (numbers_of l.symbol (written_costs (take l.posting-index l.postings)))
