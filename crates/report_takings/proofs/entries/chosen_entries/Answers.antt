use Rattle.std.proofs.Common.{◌≤◌, length, ap, ◌∙◌, arith}
use Rattle.std.specs.List.{flat_map}
use Rattle.std.proofs.lemmas.List.{take_all}
use Rattle.report_takings.specs.Asking.{question_of}
use Rattle.report_takings.specs.Walked.{chosen_in}
use Rattle.report_takings.proofs.Keeping.{chosen_are}
use Rattle.report_takings.proofs.entries.chosen_entries.Goals as goal

pub returns : goal.returns
returns c =
    let past : length c.as_slice-txn-items.result.now ≤ c.loop-txn.txn-index = omega arith in
    let all = take_all c.loop-txn.txn-index c.as_slice-txn-items.result.now past ∙ c.as_slice-txn-items.ensures in
    c.loop-txn.invariant.kept
    ∙ ap (flat_map (chosen_in c.args.start (question_of c.args.scope.now) c.args.shown)) all
    ∙ chosen_are c.args.start (question_of c.args.scope.now) c.args.shown c.args.scope.now.book.now.txns
