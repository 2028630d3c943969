use Rattle.std.proofs.Common.{take}
use Rattle.std.specs.List.{flat_map}
use Rattle.report_cells.specs.Gathered.{Adds}
use Rattle.report_takings.specs.Asking.{Serves, question_of}
use Rattle.report_takings.specs.Walked.{taken_in}
use Rattle.report_takings.proofs.gathering.gather_written.Given as goal

abbrev pub invariant-loop-txn : goal.invariant-loop-txn
invariant-loop-txn l = record {
  added : Adds l.initial.gatherer (flat_map (taken_in (question_of l.scope) l.shown) (take l.txn-index l.txn-items)) l.gatherer;
  serves : Serves l.search l.scope.query.now;
}
