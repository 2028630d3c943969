use Rattle.std.proofs.Common.{rules, of_calls}
use Rattle.book.proofs.ByDay.{sorted_by_key}
use Rattle.book.proofs.by_day.sort_by_day.Goals as goal

pub returns : goal.returns
returns c =
    sorted_by_key c.args.txns.now.items c.sort_by_key.new.self.items c.in_ok-sort_by_key.ensures.sorted c.in_ok-sort_by_key.ensures.stable
    (λ a r f k. search (rules, of_calls))
