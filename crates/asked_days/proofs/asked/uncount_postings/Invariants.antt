use Rattle.std.proofs.Common.{◌≡◌, drop}
use Rattle.std.specs.List.{flat_map, fold}
use Rattle.asked_days.specs.Asked.{days_of_posting}
use Rattle.asked_days.specs.Counts.{uncounted}
use Rattle.asked_days.proofs.asked.uncount_postings.Given as goal

-- what was noted and what is left are all
abbrev pub invariant-loop-posting : goal.invariant-loop-posting
invariant-loop-posting l = fold uncounted l.days (flat_map (days_of_posting l.txn) (drop l.posting-index l.postings)) ≡ fold uncounted l.initial.days (flat_map (days_of_posting l.txn) l.postings)
