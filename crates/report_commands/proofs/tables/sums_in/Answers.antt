use Rattle.std.proofs.Common.{Ok}
use Rattle.std.proofs.lemmas.Result.{err_from_is_err_and}
use Rattle.report_sums.specs.Celled.{cells_of}
use Rattle.report_sums.specs.Matters.{matter_of}
use Rattle.report_takings.specs.Asking.{question_of}
use Rattle.report_commands.specs.Answered.{◌>>=◌, columns_in}
use Rattle.report_commands.proofs.Steps.{both, some_columns, stop_gives, sums_fit, sums_told, then_gives}
use Rattle.report_commands.proofs.tables.sums_in.Goals as goal

pub returns-clause-told : goal.returns-clause-told
returns-clause-told c =
    then_gives both c.sums.result (columns_in (question_of c.args.job.now.scope)) c.in_ok-columns.columns
    (λ columns. cells_of (matter_of c.args.job.now) columns >>= λ cells. Ok (columns, cells))
    c.in_ok-columns.ensures.told
    (sums_told c.sums.result c.in_ok-columns.columns (cells_of (matter_of c.args.job.now) c.in_ok-columns.columns) c.sums.ensures.columns c.sums.ensures.told)

pub returns-clause-some : goal.returns-clause-some
returns-clause-some c = some_columns c.sums.result c.in_ok-columns.columns c.sums.ensures.columns c.in_ok-columns.ensures.follow.some

pub returns-clause-fits : goal.returns-clause-fits
returns-clause-fits c =
    sums_fit c.args.job.now.scope.options.now.start c.sums.result c.in_ok-columns.columns c.sums.ensures.columns c.sums.ensures.fits

pub returns-in_err-columns-clause-told : goal.returns-in_err-columns-clause-told
returns-in_err-columns-clause-told c =
    let p = err_from_is_err_and c.from_residual.result c.from_residual.ensures.1 in
    rw (p.1, p.2) (stop_gives c.in_err-columns.field-0.0 (columns_in (question_of c.args.job.now.scope))
    (λ columns. cells_of (matter_of c.args.job.now) columns >>= λ cells. Ok (columns, cells)) c.in_err-columns.ensures.told)
