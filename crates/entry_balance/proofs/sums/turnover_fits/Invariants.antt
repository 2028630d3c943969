use Rattle.std.proofs.Common.{take}
use Rattle.entry_balance.specs.Turnover.{IsTurnover}
use Rattle.entry_balance.specs.Entry.{moved}
use Rattle.entry_balance.proofs.sums.turnover_fits.Given as goal

abbrev pub invariant-loop-posting : goal.invariant-loop-posting
invariant-loop-posting l = IsTurnover (moved (take l.posting-index l.postings)) l.tally
