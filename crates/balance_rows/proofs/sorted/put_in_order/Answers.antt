use Rattle.std.proofs.Common.{rules, of_calls}
use Rattle.balance_rows.proofs.Ranking.{sorted_by_rank}
use Rattle.balance_rows.proofs.sorted.put_in_order.Goals as goal

pub returns : goal.returns
returns c =
    sorted_by_rank c.args.ranks.now.items c.sort_by.new.self.items c.in_ok-sort_by.ensures.sorted c.in_ok-sort_by.ensures.stable
    (λ a r f k. search (rules, of_calls))
