use Rattle.std.proofs.Common.{take}
use Rattle.std.specs.List.{flat_map}
use Rattle.report_cells.specs.Gathered.{Adds}
use Rattle.report_takings.specs.Asking.{Serves, question_of}
use Rattle.report_takings.specs.Walked.{taken_of}
use Rattle.report_takings.proofs.gathering.gather_all.Given as goal

abbrev pub invariant-loop-posting : goal.invariant-loop-posting
invariant-loop-posting l = record {
  added : Adds l.initial.gatherer (flat_map (λ posting. taken_of (question_of l.scope) l.shown (posting, l.txn)) (take l.posting-index l.posting-items)) l.gatherer;
  serves : Serves l.search l.scope.query.now;
}
