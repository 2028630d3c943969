use Rattle.std.proofs.Common.{◌≤◌, length, ap, ◌∙◌, arith}
use Rattle.std.specs.List.{flat_map}
use Rattle.std.proofs.lemmas.List.{take_all}
use Rattle.report_takings.specs.Asking.{question_of}
use Rattle.report_takings.specs.Walked.{taken_in}
use Rattle.report_takings.proofs.Keeping.{taken_are}
use Rattle.report_takings.proofs.takings.take_written.Goals as goal

pub returns : goal.returns
returns c =
    let past : length c.as_slice-txn-items.result.now ≤ c.loop-txn.txn-index = omega arith in
    let all = take_all c.loop-txn.txn-index c.as_slice-txn-items.result.now past ∙ c.as_slice-txn-items.ensures in
    c.loop-txn.invariant.taken
    ∙ ap (flat_map (taken_in (question_of c.args.scope.now) c.args.shown)) all
    ∙ taken_are (question_of c.args.scope.now) c.args.shown c.args.scope.now.book.now.txns
