use Rattle.std.proofs.Common.{rules, of_calls}
use Rattle.kept_books.proofs.Spotting.{sorted_by}
use Rattle.kept_books.proofs.spots.in_order.Goals as goal

pub returns-clause-sorted : goal.returns-clause-sorted
returns-clause-sorted c = sorted_by c.sort_unstable_by_key.new.self.items c.sort_unstable_by_key.ensures.sorted (λ a r f k. search (rules, of_calls))
