use Rattle.std.proofs.Common.{List, ◌++◌, take}
use Rattle.std.specs.List.{flat_map}
use Rattle.entry_balance.specs.Values.{Value}
use Rattle.entry_balance.specs.Turnover.{IsTurnover}
use Rattle.balancing.specs.Walk.{moved_when}
use Rattle.balancing.proofs.judge.add_part.Given as goal

abbrev pub invariant-loop-posting : goal.invariant-loop-posting
invariant-loop-posting l = (before : List Value) → IsTurnover before l.initial.totals → IsTurnover (before ++ flat_map (moved_when l.part l.day l.txn) (take l.posting-index l.txn.postings)) l.totals
