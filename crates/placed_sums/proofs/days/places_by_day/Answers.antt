use Rattle.std.proofs.Common.{rules, of_calls}
use Rattle.placed_sums.proofs.Daily.{sorted_days, sorted_rise}
use Rattle.placed_sums.proofs.days.places_by_day.Goals as goal

pub returns-clause-rise : goal.returns-clause-rise
returns-clause-rise c =
    sorted_rise c.in_ok-places.places.items c.sort_by_key.new.self.items c.args.book.now c.in_ok-places.ensures c.in_ok-sort_by_key.ensures.sorted c.in_ok-sort_by_key.ensures.stable
    (λ a r f k. search (rules, of_calls))

pub returns-clause-days : goal.returns-clause-days
returns-clause-days c =
    sorted_days c.in_ok-places.places.items c.sort_by_key.new.self.items c.args.book.now c.in_ok-places.ensures c.in_ok-sort_by_key.ensures.stable
    (λ a r f k. search (rules, of_calls))
