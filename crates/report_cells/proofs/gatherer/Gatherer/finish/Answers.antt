use Rattle.std.proofs.Common.{◌≡◌, List, sym, subst, ◌∙◌}
use Rattle.std.proofs.lemmas.Result.{err_from_is_err_and}
use Rattle.report_cells.specs.Gathered.{Gathered, Gathers, IsBegun}
use Rattle.report_cells.proofs.Finishing.{rows_needed, columns_needed, refused_told, finished_told}
use Rattle.report_cells.proofs.gatherer.Gatherer.finish.Goals as goal

pub cells_of-requires-clause-rows : goal.cells_of-requires-clause-rows
cells_of-requires-clause-rows c =
    let g : Gathered = record { rows = c.self.inside.rows.entries; turnovers = c.self.inside.turnovers.entries; full = c.self.inside.full; columns = c.self.inside.columns; reach = c.self.inside.reach } in
    let begun : IsBegun g = subst IsBegun (sym c.self.view_is) c.requires in
    rows_needed g begun c.in_ok-refuse_full.ensures.none

pub cells_of-requires-clause-totals : goal.cells_of-requires-clause-totals
cells_of-requires-clause-totals c =
    let g : Gathered = record { rows = c.self.inside.rows.entries; turnovers = c.self.inside.turnovers.entries; full = c.self.inside.full; columns = c.self.inside.columns; reach = c.self.inside.reach } in
    let begun : IsBegun g = subst IsBegun (sym c.self.view_is) c.requires in
    columns_needed g begun c.in_ok-refuse_full.ensures.none

pub returns-in_err-refuse_full : goal.returns-in_err-refuse_full
returns-in_err-refuse_full c = λ columns reach ts h.
    let g : Gathered = record { rows = c.self.inside.rows.entries; turnovers = c.self.inside.turnovers.entries; full = c.self.inside.full; columns = c.self.inside.columns; reach = c.self.inside.reach } in
    let p = err_from_is_err_and c.from_residual.result c.from_residual.ensures.1 in
    rw (p.1, p.2) (refused_told columns reach ts g (subst (Gathers columns reach ts) (sym c.self.view_is) h) c.in_err-refuse_full.field-0.0 c.in_err-refuse_full.ensures.fault)

pub returns : goal.returns
returns c = λ columns reach ts h.
    let g : Gathered = record { rows = c.self.inside.rows.entries; turnovers = c.self.inside.turnovers.entries; full = c.self.inside.full; columns = c.self.inside.columns; reach = c.self.inside.reach } in
    finished_told columns reach ts g (subst (Gathers columns reach ts) (sym c.self.view_is) h) c.in_ok-refuse_full.ensures.none c.cells_of.result
    c.cells_of.ensures.columns c.cells_of.ensures.rows c.cells_of.ensures.totals c.cells_of.ensures.fault
