use Rattle.std.proofs.Common.{take}
use Rattle.entry_balance.specs.Entry.{moved}
use Rattle.kept_turnover.specs.Keeping.{Loses}
use Rattle.kept_turnover.proofs.postings.take_postings.Given as goal

abbrev pub invariant-loop-posting : goal.invariant-loop-posting
invariant-loop-posting l = Loses l.initial.symbols l.symbols (moved (take l.posting-index l.postings))
