use Rattle.report_commands.proofs.Steps.{columns_give}
use Rattle.report_takings.specs.Asking.{question_of}
use Rattle.report_takings.specs.Columns.{columns_of}
use Rattle.kept_reports.proofs.cells.table_columns.Goals as goal

pub columns_of-requires : goal.columns_of-requires
columns_of-requires c = c.requires.valid.bounds.2

pub returns-clause-told : goal.returns-clause-told
returns-clause-told c =
    columns_give c.columns_of.result (columns_of (question_of c.args.scope.now))
    c.columns_of.ensures.columns c.columns_of.ensures.few c.columns_of.ensures.fault
