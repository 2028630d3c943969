use Rattle.std.proofs.Common.{map, ap, ◌∙◌}
use Rattle.report_cells.specs.Report.{accounts_in}
use Rattle.report_cells.specs.declared.cells.CellRow.{CellRow}
use Rattle.report_cells.specs.declared.reach.Reach.TheVariants.{Within}
use Rattle.index_cells.proofs.Keeping.{names_are, only_want, told_as}
use Rattle.index_cells.proofs.names.names_of.Goals as goal

pub want_of-requires : goal.want_of-requires
want_of-requires c = only_want c.args.takings.now c.in-Err.fault c.requires c.in-Err.ensures.fault

pub returns-in-Ok : goal.returns-in-Ok
returns-in-Ok c =
    let ts = c.args.takings.now in
    told_as c.copied.result (map (λ (row : CellRow). row.account) c.as_slice.result.now) (accounts_in ts)
    (ap (map (λ (row : CellRow). row.account)) c.as_slice.ensures ∙ names_are Within c.in_ok-columns.columns ts c.in-Ok.cells.rows c.in-Ok.ensures.rows)
    c.copied.ensures
