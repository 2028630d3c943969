use Rattle.std.proofs.Common.{◌≡◌, drop}
use Rattle.std.specs.List.{fold}
use Rattle.report_takings.specs.Asking.{Serves, question_of}
use Rattle.report_takings.specs.Ended.{with_entry, with_txn}
use Rattle.report_takings.proofs.ends.with_txn.Given as goal

abbrev pub invariant-loop-posting : goal.invariant-loop-posting
invariant-loop-posting l = record {
  ends : with_txn (question_of l.scope) l.fn.ends l.txn ≡ fold (λ so_far posting. with_entry (question_of l.scope) so_far (posting, l.txn)) l.so_far (drop l.posting-index l.posting-items);
  serves : Serves l.search l.scope.query.now;
}
