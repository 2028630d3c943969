use Rattle.report_values.specs.Cells.{fitting, planned_of}
use Rattle.report_values.proofs.Composing.{few_cells}
use Rattle.report_values.proofs.cells.least_fault.Goals as goal

pub value_cells-requires-clause-whole : goal.value_cells-requires-clause-whole
value_cells-requires-clause-whole c = few_cells (planned_of c.args.plan.now) (fitting c.args.takings.now) c.in-Ok.cells c.in-Ok.ensures.columns c.in-Ok.ensures.rows c.requires.few
