use Rattle.std.proofs.Common.{◌≡◌, None, drop}
use Rattle.std.specs.List.{fold}
use Rattle.report_takings.specs.Asking.{Serves, question_of}
use Rattle.report_takings.specs.Ended.{with_txn}
use Rattle.report_takings.proofs.ends.ends_of.Given as goal

abbrev pub invariant-loop-txn : goal.invariant-loop-txn
invariant-loop-txn l = record {
  ends : fold (with_txn (question_of l.scope)) (record { first = None; last = None }) l.scope.book.now.txns ≡ fold (with_txn (question_of l.scope)) l.ends (drop l.txn-index l.txn-items);
  serves : Serves l.search l.scope.query.now;
}
