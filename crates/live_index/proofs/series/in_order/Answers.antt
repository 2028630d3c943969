use Rattle.live_index.proofs.SeriesLaws.{order-lent}
use Rattle.live_index.proofs.series.in_order.Goals as goal

pub returns : goal.returns
returns c =
    order-lent c.args.rows.now c.in_ok-order.order.items c.sort_by_cached_key.new.self.items c.in_ok-order.ensures c.in_ok-sort_by_cached_key.ensures.permutation
