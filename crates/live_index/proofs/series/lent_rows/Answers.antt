use Rattle.std.proofs.Common.{◌<◌, length, rules}
use Rattle.live_index.proofs.SeriesLaws.{lent-more}
use Rattle.live_index.proofs.series.lent_rows.Goals as goal

pub loop-row-preserved : goal.loop-row-preserved
loop-row-preserved c =
    let inside : c.loop-row.row-index < length c.args.rows.now = search rules in
    lent-more c.loop-row.lent.items c.push.new.self.items _ c.args.rows.now c.loop-row.row-index inside c.row-item.is c.in_ok-push.ensures.items c.loop-row.invariant
