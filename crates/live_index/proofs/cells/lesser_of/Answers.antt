use Rattle.std.proofs.Common.{arith}
use Rattle.std.specs.Arc.{arc_value}
use Rattle.live_index.proofs.WalkLaws.{less-of}
use Rattle.live_index.proofs.cells.lesser_of.Goals as goal

pub returns-then-second-other : goal.returns-then-second-other
returns-then-second-other c = less-of arc_value c.args.first.now c.args.second.now c.args.at c.args.other (omega arith) (omega arith)
