use Rattle.std.proofs.Common.{◌≡◌, length, take}
use Rattle.std.specs.List.{flat_map}
use Rattle.query.specs.OwnLetters.{own_in}
use Rattle.rule_entries.specs.Counted.{told}
use Rattle.generated.specs.Added.{added}
use Rattle.generated.specs.Asking.{AllAsk, all_asked}
use Rattle.generated.proofs.adding.count_in.Given as goal

abbrev pub invariant-loop-posting : goal.invariant-loop-posting
invariant-loop-posting l = record {
  count : l.count ≡ told (length (flat_map (added (own_in l.accounts.types.now) (all_asked l.fn.askers) l.txn) (take l.posting-index l.posting-items)));
  ask : AllAsk l.fn.askers l.askers;
}
