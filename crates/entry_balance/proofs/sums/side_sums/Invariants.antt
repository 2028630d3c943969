use Rattle.std.proofs.Common.{◌≡◌, take}
use Rattle.entry_balance.specs.Tally.{sums_of}
use Rattle.entry_balance.specs.Entry.{side_values}
use Rattle.entry_balance.proofs.sums.side_sums.Given as goal

abbrev pub invariant-loop-posting : goal.invariant-loop-posting
invariant-loop-posting l = l.tally ≡ sums_of (side_values l.side (take l.posting-index l.postings))
