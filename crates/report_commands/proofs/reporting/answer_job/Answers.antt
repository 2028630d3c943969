use Rattle.std.proofs.Common.{◌≡◌, ℕ, List, sym, subst}
use Rattle.std.proofs.lemmas.Result.{err_from_is_err_and}
use Rattle.query.specs.OwnLetters.{own_in}
use Rattle.report_options.specs.Options.{IsValid}
use Rattle.report_options.specs.declared.options.Options.{Options}
use Rattle.report_sums.specs.Matters.{matter_of}
use Rattle.report_commands.specs.Answered.{text_by}
use Rattle.report_commands.specs.Reports.{answer_over}
use Rattle.report_commands.proofs.Answering.{job_given, made_report, refused_report}
use Rattle.report_commands.proofs.reporting.answer_job.Goals as goal

pub text_by-requires : goal.text_by-requires
text_by-requires c = subst (λ (o : Options). IsValid o) (sym c.requires.options) c.requires.valid

pub returns : goal.returns
returns c = λ items made.
    let job = c.args.job.now in
    made_report c.in_ok-text_by.field-0 (text_by job.scope.options.now.command (own_in job.scope.types.now) (matter_of job))
    (answer_over c.args.asked.now job.scope.day.0 items job.scope.book.now)
    (job_given c.args.asked.now items job made) c.in_ok-text_by.ensures

pub returns-in_err-text_by : goal.returns-in_err-text_by
returns-in_err-text_by c = λ items made.
    let job = c.args.job.now in
    let p = err_from_is_err_and c.from_residual.result c.from_residual.ensures.1 in
    rw (p.1, p.2) (refused_report c.in_err-text_by.field-0.0 (text_by job.scope.options.now.command (own_in job.scope.types.now) (matter_of job))
    (answer_over c.args.asked.now job.scope.day.0 items job.scope.book.now)
    (job_given c.args.asked.now items job made) c.in_err-text_by.ensures)
