use Rattle.std.proofs.Common.{List, subst}
use Rattle.std.proofs.lemmas.Result.{err_from_is_err_and}
use Rattle.hl_time.specs.declared.spans.Span.{Span}
use Rattle.index_cells.specs.Asks.{AsksFor, nodes_shown}
use Rattle.index_cells.proofs.Asking.{asks_none}
use Rattle.report_takings.specs.Asking.{question_of}
use Rattle.report_takings.specs.Columns.{columns_of}
use Rattle.kept_reports.proofs.Summing.{no_columns, table_shown}
use Rattle.kept_reports.proofs.cells.table_cells.Goals as goal

pub returns-clause-shown : goal.returns-clause-shown
returns-clause-shown g c = λ m is.
    table_shown m (question_of c.args.scope.now) c.in_ok-columns.columns c.cells_by.result is c.requires.served
    c.in_ok-columns.ensures.told c.in_ok-columns.ensures.follow c.cells_by.ensures.made

pub returns-in_err-columns-clause-shown : goal.returns-in_err-columns-clause-shown
returns-in_err-columns-clause-shown g c = λ m is.
    let p = err_from_is_err_and c.from_residual.result c.from_residual.ensures.1 in
    rw (p.1, p.2) (no_columns m (question_of c.args.scope.now) c.in_err-columns.field-0.0 is c.in_err-columns.ensures.told)

pub returns-clause-asked : goal.returns-clause-asked
returns-clause-asked g c =
    subst (λ (columns : List Span). AsksFor (nodes_shown c.args.kept.now columns) c.args.steps.now c.cells_by.new.steps) c.in_ok-columns.ensures.columns c.cells_by.ensures.asked

pub returns-in_err-columns-clause-asked : goal.returns-in_err-columns-clause-asked
returns-in_err-columns-clause-asked g c = asks_none (nodes_shown c.args.kept.now (columns_of (question_of c.args.scope.now))) c.args.steps.now
