use Rattle.std.proofs.Common.{◌≡◌, ◌++◌, take}
use Rattle.std.specs.List.{flat_map}
use Rattle.report_takings.specs.Asking.{Serves, question_of}
use Rattle.report_takings.specs.Walked.{chosen_of}
use Rattle.report_takings.proofs.entries.keep_all.Given as goal

abbrev pub invariant-loop-posting : goal.invariant-loop-posting
invariant-loop-posting l = record {
  kept : l.kept.items ≡ l.initial.kept.items ++ flat_map (λ posting. chosen_of l.start (question_of l.scope) l.shown (posting, l.txn)) (take l.posting-index l.posting-items);
  serves : Serves l.search l.scope.query.now;
}
