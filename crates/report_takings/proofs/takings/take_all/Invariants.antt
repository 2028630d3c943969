use Rattle.std.proofs.Common.{◌≡◌, ◌++◌, take}
use Rattle.std.specs.List.{flat_map}
use Rattle.report_takings.specs.Asking.{Serves, question_of}
use Rattle.report_takings.specs.Walked.{taken_of}
use Rattle.report_takings.proofs.takings.take_all.Given as goal

abbrev pub invariant-loop-posting : goal.invariant-loop-posting
invariant-loop-posting l = record {
  taken : l.takings.items ≡ l.initial.takings.items ++ flat_map (λ posting. taken_of (question_of l.scope) l.shown (posting, l.txn)) (take l.posting-index l.posting-items);
  serves : Serves l.search l.scope.query.now;
}
