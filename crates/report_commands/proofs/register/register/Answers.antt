use Rattle.std.proofs.Common.{List, subst}
use Rattle.std.proofs.Common.{ℕ}
use Rattle.std.proofs.lemmas.Result.{err_from_is_err_and}
use Rattle.hl_base.specs.Gives.{Gives}
use Rattle.hl_time.specs.declared.spans.Span.{Span}
use Rattle.report_sums.specs.Celled.{cause}
use Rattle.report_sums.specs.Matters.{matter_of}
use Rattle.report_takings.specs.Asking.{question_of}
use Rattle.report_takings.specs.Takings.{shown_in}
use Rattle.report_commands.specs.Answered.{columns_in, register_over}
use Rattle.report_commands.proofs.Steps.{stop_gives, then_gives}
use Rattle.report_commands.proofs.register.register.Goals as goal

pub returns : goal.returns
returns c =
    then_gives (λ (text : List ℕ). text) c.register_over.result (columns_in (question_of c.args.job.now.scope)) c.in_ok-columns.columns
    (λ (columns : List Span). register_over (matter_of c.args.job.now) (shown_in columns))
    c.in_ok-columns.ensures.told
    (subst (λ (columns : List Span). Gives (λ (text : List ℕ). text) cause c.register_over.result (register_over (matter_of c.args.job.now) (shown_in columns)))
    c.as_slice.ensures
    (subst (λ (span : Span). Gives (λ (text : List ℕ). text) cause c.register_over.result (register_over (matter_of c.args.job.now) span))
    c.shown_in-span.ensures c.register_over.ensures))

pub returns-in_err-columns : goal.returns-in_err-columns
returns-in_err-columns c =
    let p = err_from_is_err_and c.from_residual.result c.from_residual.ensures.1 in
    rw (p.1, p.2) (stop_gives c.in_err-columns.field-0.0 (columns_in (question_of c.args.job.now.scope))
    (λ (columns : List Span). register_over (matter_of c.args.job.now) (shown_in columns)) c.in_err-columns.ensures.told)
