use Rattle.kept_reports.proofs.cells.kept_cells.Goals as goal

pub list_cells-requires-clause-whole : goal.list_cells-requires-clause-whole
list_cells-requires-clause-whole g c = c.in-None.is
