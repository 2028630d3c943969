use Rattle.std.proofs.Common.{◌≡◌, map, take}
use Rattle.report_takings.specs.Asking.{Serves, question_of}
use Rattle.journal_listings.specs.Printed.{is_printed}
use Rattle.journal_listings.proofs.printing.chosen_of.Given as goal

abbrev pub invariant-loop-txn : goal.invariant-loop-txn
invariant-loop-txn l = record {
  chosen : l.chosen.items ≡ map (is_printed (question_of l.scope)) (take l.txn-index l.txn-items);
  serves : Serves l.search l.scope.query.now;
}
