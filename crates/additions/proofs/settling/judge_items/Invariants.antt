use Rattle.std.proofs.Common.{take}
use Rattle.book.specs.Postings.{txns_of}
use Rattle.additions.specs.Words.{AreJudged}
use Rattle.additions.proofs.settling.judge_items.Given as goal

abbrev pub invariant-loop-placed : goal.invariant-loop-placed
invariant-loop-placed l = AreJudged (txns_of (take l.placed-index l.items)) l.all.items
