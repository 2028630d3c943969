use Rattle.std.proofs.Common.{arith}
use Rattle.live_index.proofs.SeriesLaws.{ends-last, ends-next}
use Rattle.live_index.proofs.series.ends_day.Goals as goal

pub returns-then-later-rows : goal.returns-then-later-rows
returns-then-later-rows c = ends-last c.args.rows.now c.args.at (omega arith)

pub returns : goal.returns
returns c =
    ends-next c.args.rows.now c.args.at c.index-rows-at.result c.index-rows-later.result (omega arith) c.index-rows-at.is c.index-rows-later.is
