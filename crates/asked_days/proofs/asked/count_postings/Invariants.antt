use Rattle.std.proofs.Common.{◌≡◌, drop}
use Rattle.std.specs.List.{flat_map, fold}
use Rattle.asked_days.specs.Asked.{days_of_posting}
use Rattle.asked_days.specs.Counts.{counted}
use Rattle.asked_days.proofs.asked.count_postings.Given as goal

-- what was noted and what is left are all
abbrev pub invariant-loop-posting : goal.invariant-loop-posting
invariant-loop-posting l = fold counted l.days (flat_map (days_of_posting l.txn) (drop l.posting-index l.postings)) ≡ fold counted l.initial.days (flat_map (days_of_posting l.txn) l.postings)
