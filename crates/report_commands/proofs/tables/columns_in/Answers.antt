use Rattle.report_takings.specs.Asking.{question_of}
use Rattle.report_takings.specs.Columns.{columns_of}
use Rattle.report_commands.proofs.Steps.{columns_counted, columns_give}
use Rattle.report_commands.proofs.tables.columns_in.Goals as goal

pub columns_of-requires : goal.columns_of-requires
columns_of-requires c = c.requires.bounds.2

pub returns-clause-told : goal.returns-clause-told
returns-clause-told c =
    columns_give c.columns_of.result (columns_of (question_of c.args.scope.now))
    c.columns_of.ensures.columns c.columns_of.ensures.few c.columns_of.ensures.fault

pub returns-clause-few : goal.returns-clause-few
returns-clause-few c = columns_counted c.columns_of.result c.columns_of.ensures.few
