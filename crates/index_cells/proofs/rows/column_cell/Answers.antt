use Rattle.std.proofs.Common.{◌^◌}
use Rattle.index_cells.proofs.Ending.{no_later, told_by}
use Rattle.index_cells.proofs.rows.column_cell.Goals as goal

pub cell_of-requires-clause-early : goal.cell_of-requires-clause-early
cell_of-requires-clause-early g c =
    no_later c.args.plan.now.reach c.args.plan.now.days c.args.column.now (2 ^ 22) c.counted-days.result c.counted-days.ensures c.requires.early

pub returns-clause-sums : goal.returns-clause-sums
returns-clause-sums g c =
    told_by c.args.kept.now c.args.account.now c.args.plan.now.reach c.args.plan.now.days c.args.column.now c.counted-days.result c.counted-days.ensures c.cell_of.result c.cell_of.ensures.sums
