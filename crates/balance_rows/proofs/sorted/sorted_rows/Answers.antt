use Rattle.balance_rows.proofs.Ranking.{rows_in_order}
use Rattle.balance_rows.proofs.sorted.sorted_rows.Goals as goal

pub returns : goal.returns
returns c =
    rows_in_order c.args.basis c.args.rows c.in_ok-sorted.sorted c.in_ok-ranks.ranks.items c.put_in_order.new.ranks.items
    c.in_ok-ranks.ensures.rows c.in_ok-ranks.ensures.each c.in_ok-put_in_order.ensures c.in_ok-sorted.ensures
