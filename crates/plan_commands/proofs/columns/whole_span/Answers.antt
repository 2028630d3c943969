use Rattle.report_takings.specs.Asking.{question_of}
use Rattle.report_takings.specs.Spans.{span_of}
use Rattle.plan_commands.proofs.Shown.{span_kept, spans_so}
use Rattle.plan_commands.proofs.columns.whole_span.Goals as goal

pub returns : goal.returns
returns c =
    let asked = question_of c.args.scope.now in
    spans_so c.only_span.result (span_of (record asked { options = c.in_ok-options.options })) (span_of asked)
    (span_kept asked c.in_ok-options.options c.in_ok-options.ensures) c.only_span.ensures
