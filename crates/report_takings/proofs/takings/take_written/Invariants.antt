use Rattle.std.proofs.Common.{◌≡◌, take}
use Rattle.std.specs.List.{flat_map}
use Rattle.report_takings.specs.Asking.{Serves, question_of}
use Rattle.report_takings.specs.Walked.{taken_in}
use Rattle.report_takings.proofs.takings.take_written.Given as goal

abbrev pub invariant-loop-txn : goal.invariant-loop-txn
invariant-loop-txn l = record {
  taken : l.takings.items ≡ flat_map (taken_in (question_of l.scope) l.shown) (take l.txn-index l.txn-items);
  serves : Serves l.search l.scope.query.now;
}
