use Rattle.std.proofs.Common.{◌≡◌, List, length, map, sym, subst, rules}
use Rattle.std.specs.List.{AllByRecursion}
use Rattle.std.proofs.lemmas.Iterator.Adapters.{YieldsList-from_vec}
use Rattle.std.proofs.lemmas.Iterator.Consumers.{YieldsList-turn}
use Rattle.report_cells.specs.Report.{row_seen}
use Rattle.report_cells.specs.declared.cells.CellRow.{CellRow}
use Rattle.balance_rows.specs.Fitting.{RowFits}
use Rattle.balance_rows.proofs.Entries.{all-mapped-at}
use Rattle.balance_rows.proofs.sorted.ranks_of.Goals as goal

pub rank_of-requires : goal.rank_of-requires
rank_of-requires c = λ changes.
    let all = c.into_vec-row-items.result.items in
    let whole : all ≡ c.args.rows = c.into_vec-row-items.ensures in
    let yields = YieldsList-from_vec {s = c.into_iter-row-iterator.result} all (search rules) (search rules) in
    let xs = c.loop-row.yielded in
    let x = c.in-Some.row in
    let turn = YieldsList-turn yields xs c.loop-row.row-iterator c.loop-row.yielded_by c.next.result c.next.new.self x c.in-Some.is c.next.ensures.steps in
    all-mapped-at RowFits row_seen all (length xs) x turn.0 turn.1
    (subst (λ (rows : List CellRow). AllByRecursion RowFits (map row_seen rows)) (sym whole) (c.requires changes))
