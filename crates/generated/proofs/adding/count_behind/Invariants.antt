use Rattle.std.proofs.Common.{◌≡◌, length, take}
use Rattle.std.specs.List.{flat_map}
use Rattle.query.specs.OwnLetters.{own_in}
use Rattle.rule_entries.specs.Counted.{told}
use Rattle.generated.specs.Added.{added_by}
use Rattle.generated.specs.Asking.{AllAsk, all_asked}
use Rattle.generated.proofs.adding.count_behind.Given as goal

abbrev pub invariant-loop-asker : goal.invariant-loop-asker
invariant-loop-asker l = record {
  at : l.at ≡ l.asker-index;
  count : l.count ≡ told (length (flat_map (added_by (own_in l.accounts.types.now) l.txn l.posting) (take l.asker-index (all_asked l.fn.askers))));
  ask : AllAsk l.fn.askers l.askers;
}
