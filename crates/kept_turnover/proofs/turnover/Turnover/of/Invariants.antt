use Rattle.std.proofs.Common.{take}
use Rattle.book.specs.Postings.{postings_of}
use Rattle.entry_balance.specs.Entry.{moved}
use Rattle.kept_turnover.specs.Keeping.{IsTurnover}
use Rattle.kept_turnover.proofs.turnover.Turnover.of.Given as goal

abbrev pub invariant-loop-txn : goal.invariant-loop-txn
invariant-loop-txn l = IsTurnover l.turnover (moved (postings_of (take l.txn-index l.txns)))
