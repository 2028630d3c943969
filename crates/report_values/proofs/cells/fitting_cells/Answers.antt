use Rattle.std.proofs.Common.{◌≡◌, ℕ, List, map, Option, Some, None, sym, ap, subst, ◌∙◌}
use Rattle.hl_time.specs.declared.spans.Span.{Span}
use Rattle.report_cells.specs.Bounds.{first_out}
use Rattle.report_cells.specs.Faults.{IsFault}
use Rattle.report_cells.specs.Report.{row_seen, rows_in}
use Rattle.report_cells.specs.Taken.{Taken}
use Rattle.report_cells.specs.declared.fault.ReportFault.{ReportFault}
use Rattle.report_values.specs.Cells.{fitting}
use Rattle.report_values.proofs.Leaving.{none_left, some_none}
use Rattle.report_values.proofs.cells.fitting_cells.Goals as goal

pub returns-in-Ok-clause-rows : goal.returns-in-Ok-clause-rows
returns-in-Ok-clause-rows c =
    c.in-Ok.ensures.rows
    ∙ ap (λ (ts : List Taken). rows_in c.args.plan.now.reach c.in_ok-columns.columns ts) (c.deref.ensures.value ∙ c.in_ok-kept.ensures)
    ∙ ap (λ (cs : List Span). rows_in c.args.plan.now.reach cs (fitting c.args.takings.now)) c.in_ok-columns.ensures

pub unreachable-requires : goal.unreachable-requires
unreachable-requires c =
    let fault = subst (λ (f : ReportFault). IsFault c.deref.result.now f) c.in-Err-Range.field-0-is c.in-Err-Range.ensures.fault in
    some_none _ (sym fault ∙ ap first_out (c.deref.ensures.value ∙ c.in_ok-kept.ensures) ∙ none_left c.args.takings.now)
