use Rattle.std.proofs.Common.{take}
use Rattle.entry_balance.specs.Entry.{moved}
use Rattle.kept_turnover.specs.Keeping.{Gains}
use Rattle.kept_turnover.proofs.postings.add_postings.Given as goal

abbrev pub invariant-loop-posting : goal.invariant-loop-posting
invariant-loop-posting l = Gains l.initial.symbols l.symbols (moved (take l.posting-index l.postings))
