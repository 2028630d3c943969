use Rattle.std.proofs.Common.{◌≡◌, ◌++◌, map, take, drop}
use Rattle.entry_balance.specs.Fill.{filled_in_place}
use Rattle.entry_balance.proofs.fill.fill_in_place.Given as goal

abbrev pub invariant-loop-posting : goal.invariant-loop-posting
invariant-loop-posting l = l.postings ≡ map (filled_in_place l.plan.real.items l.plan.balanced.items) (take l.posting-index l.fn.postings) ++ drop l.posting-index l.fn.postings
