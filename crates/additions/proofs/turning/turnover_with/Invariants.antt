use Rattle.std.proofs.Common.{take}
use Rattle.additions.proofs.Judging.{Turned}
use Rattle.additions.proofs.turning.turnover_with.Given as goal

abbrev pub invariant-loop-judged : goal.invariant-loop-judged
invariant-loop-judged l = Turned l.turnover l.all (take l.judged-index l.more)
