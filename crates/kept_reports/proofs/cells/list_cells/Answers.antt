use Rattle.std.proofs.Common.{List, sym, subst}
use Rattle.std.proofs.lemmas.Result.{err_from_is_err_and}
use Rattle.hl_time.specs.declared.spans.Span.{Span}
use Rattle.index_cells.specs.Asks.{AsksFor, nodes_shown}
use Rattle.index_cells.specs.Shown.{Shows}
use Rattle.index_cells.proofs.Asking.{asks_none}
use Rattle.report_sums.specs.Celled.{reach_of}
use Rattle.report_takings.specs.Asking.{question_of}
use Rattle.report_takings.specs.Columns.{columns_of}
use Rattle.report_takings.specs.Takings.{takings_of}
use Rattle.kept_reports.proofs.Summing.{alone_in, list_shown, plain_so}
use Rattle.kept_reports.proofs.cells.list_cells.Goals as goal

pub returns-clause-shown : goal.returns-clause-shown
returns-clause-shown g c = λ m is.
    let scope = c.args.scope.now in
    let plain = plain_so scope c.requires.bare c.requires.served in
    list_shown scope plain c.requires.keeps.dated c.requires.whole c.requires.served m is c.cells_by.result
    (subst (λ (columns : List Span). Shows columns (reach_of scope.options.now.start) (takings_of (question_of scope) columns) c.cells_by.result) c.in_ok-columns.ensures c.cells_by.ensures.made)

pub returns-clause-asked : goal.returns-clause-asked
returns-clause-asked g c =
    let scope = c.args.scope.now in
    let plain = plain_so scope c.requires.bare c.requires.served in
    let asks : List Span → Type 0 = λ columns. AsksFor (nodes_shown c.args.kept.now columns) c.args.steps.now c.cells_by.new.steps in
    subst asks (sym (alone_in scope plain c.requires.keeps.dated c.requires.whole)) (subst asks c.in_ok-columns.ensures c.cells_by.ensures.asked)

pub returns-in_err-columns-clause-shown : goal.returns-in_err-columns-clause-shown
returns-in_err-columns-clause-shown g c = λ m is.
    let p = err_from_is_err_and c.from_residual.result c.from_residual.ensures.1 in
    rw (p.1, p.2) tt

pub returns-in_err-columns-clause-asked : goal.returns-in_err-columns-clause-asked
returns-in_err-columns-clause-asked g c = asks_none (nodes_shown c.args.kept.now (columns_of (question_of c.args.scope.now))) c.args.steps.now
