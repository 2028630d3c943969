use Rattle.std.proofs.Common.{◌≡◌, length, take}
use Rattle.std.specs.List.{flat_map}
use Rattle.query.specs.OwnLetters.{own_in}
use Rattle.rule_entries.specs.Counted.{told}
use Rattle.generated.specs.Added.{added_to}
use Rattle.generated.specs.Asking.{AllAsk, all_asked}
use Rattle.generated.proofs.adding.count_added.Given as goal

abbrev pub invariant-loop-txn : goal.invariant-loop-txn
invariant-loop-txn l = record {
  count : l.count ≡ told (length (flat_map (added_to (own_in l.accounts.types.now) (all_asked l.fn.askers)) (take l.txn-index l.txns)));
  ask : AllAsk l.fn.askers l.askers;
}
