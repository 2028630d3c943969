use Rattle.std.proofs.Common.{◌≡◌, List, length, map, sym, subst, rules}
use Rattle.std.specs.List.{AllByRecursion}
use Rattle.std.proofs.lemmas.Iterator.Adapters.{YieldsList-from_vec}
use Rattle.std.proofs.lemmas.Iterator.Consumers.{YieldsList-turn}
use Rattle.report_cells.specs.declared.cells.CellRow.{CellRow}
use Rattle.report_cells.specs.Report.{row_seen}
use Rattle.balance_rows.specs.Fitting.{RowFits}
use Rattle.balance_layouts.proofs.Turns.{row_at}
use Rattle.balance_layouts.proofs.table.table_rows.Goals as goal

pub table_row-requires-clause-fits : goal.table_row-requires-clause-fits
table_row-requires-clause-fits c = λ asked.
    let all = c.into_vec-row-items.result.items in
    let whole : all ≡ c.args.rows = c.into_vec-row-items.ensures in
    let yields = YieldsList-from_vec {s = c.into_iter-row-iterator.result} all (search rules) (search rules) in
    let before = c.loop-row.yielded in
    let row = c.in-Some.row in
    let turn = YieldsList-turn yields before c.loop-row.row-iterator c.loop-row.yielded_by c.next.result c.next.new.self row c.in-Some.is c.next.ensures.steps in
    row_at RowFits all (length before) row turn.0 turn.1 (subst (λ (rows : List CellRow). AllByRecursion RowFits (map row_seen rows)) (sym whole) (c.requires.fits asked))
