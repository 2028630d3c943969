use Rattle.std.proofs.Common.{◌≡◌, [], take, true}
use Rattle.assertions.specs.Kept.{IsBalance, are_asked}
use Rattle.assertions.proofs.balances.asked.Given as goal

abbrev pub invariant-loop-txn : goal.invariant-loop-txn
invariant-loop-txn l = record {
  fresh : IsBalance [] l.balances.own l.balances.below;
  asked : are_asked l.balances.own l.balances.below (take l.txn-index l.txns) ≡ true;
}
