use Rattle.report_takings.specs.Asking.{question_of}
use Rattle.plan_commands.proofs.Shown.{only_is}
use Rattle.std.proofs.Common.{◌∙◌, ap, List}
use Rattle.hl_time.specs.declared.spans.Span.{Span}
use Rattle.report_takings.specs.Takings.{shown_in}
use Rattle.plan_commands.proofs.columns.only_span.Goals as goal

pub returns-in-Ok : goal.returns-in-Ok
returns-in-Ok c =
    c.shown_in.ensures ∙ ap (λ (columns : List Span). shown_in columns) c.as_slice.ensures
    ∙ only_is (question_of c.args.scope.now) c.in-Ok.columns c.requires c.in-Ok.ensures.columns
