use Rattle.std.proofs.Common.{◌≡◌, map, take}
use Rattle.query.specs.OwnLetters.{own_in}
use Rattle.generated.specs.Added.{with_added}
use Rattle.generated.specs.Asking.{AllAsk, all_asked}
use Rattle.generated.proofs.adding.all_with_added.Given as goal

abbrev pub invariant-loop-txn : goal.invariant-loop-txn
invariant-loop-txn l = record {
  made : l.made.items ≡ map (with_added (own_in l.accounts.types.now) (all_asked l.fn.askers)) (take l.txn-index l.txns);
  ask : AllAsk l.fn.askers l.askers;
}
