use Rattle.std.proofs.Common.{◌≡◌, ◌++◌, map}
use Rattle.std.specs.List.{range_with_len}
use Rattle.hl_time.specs.Units.{occurrence}
use Rattle.rule_entries.specs.Making.{txn_on}
use Rattle.rule_entries.proofs.making.push_days.Given as goal

abbrev pub invariant-loop-at : goal.invariant-loop-at
invariant-loop-at l =
    l.txns.items ≡ l.initial.txns.items
    ++ map (txn_on l.rule) (map (occurrence l.occasions.start.0 l.occasions.interval) (range_with_len l.occasions.first l.at))
