use Rattle.std.proofs.Common.{arith}
use Rattle.live_index.proofs.TogetherLaws.{greater-of, less-of}
use Rattle.live_index.proofs.runs.earlier_of.Goals as goal

pub returns-then-first-at : goal.returns-then-first-at
returns-then-first-at c = greater-of c.args.first.now c.args.at _ (omega arith)

pub returns-then-second-other : goal.returns-then-second-other
returns-then-second-other c = less-of c.args.first.now c.args.second.now c.args.at c.args.other (omega arith) (omega arith)
