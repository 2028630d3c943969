use Rattle.std.proofs.Common.{◌≡◌, List, length, map, sym, subst, rules}
use Rattle.std.specs.List.{AllByRecursion}
use Rattle.std.proofs.lemmas.Iterator.Adapters.{YieldsList-from_vec}
use Rattle.std.proofs.lemmas.Iterator.Consumers.{YieldsList-turn}
use Rattle.report_cells.specs.declared.cells.CellRow.{CellRow}
use Rattle.report_cells.specs.Report.{row_seen}
use Rattle.balance_rows.specs.Fitting.{RowFits}
use Rattle.balance_layouts.proofs.Turns.{row_at}
use Rattle.budget_layout.specs.Lined.{goals_in}
use Rattle.budget_layout.specs.OnPage.{layout_on, style_on}
use Rattle.budget_layout.proofs.Lining.{least_more, lines_more}
use Rattle.budget_layout.proofs.body.push_rows.Goals as goal

pub push_beside-requires-clause-fits : goal.push_beside-requires-clause-fits
push_beside-requires-clause-fits c = λ asked.
    let all = c.into_vec-row-items.result.items in
    let whole : all ≡ c.args.rows = c.into_vec-row-items.ensures in
    let yields = YieldsList-from_vec {s = c.into_iter-row-iterator.result} all (search rules) (search rules) in
    let before = c.loop-row.yielded in
    let row = c.in-Some.row in
    let turn = YieldsList-turn yields before c.loop-row.row-iterator c.loop-row.yielded_by c.next.result c.next.new.self row c.in-Some.is c.next.ensures.steps in
    row_at RowFits all (length before) row turn.0 turn.1 (subst (λ (rows : List CellRow). AllByRecursion RowFits (map row_seen rows)) (sym whole) (c.requires.fits asked))

pub loop-row-preserved : goal.loop-row-preserved
loop-row-preserved c =
    let page = c.args.page.now in
    let goals = goals_in c.args.goals.now in
    record {
      lines = lines_more (layout_on page) page.columns (style_on page) goals c.args.lines.now.items c.loop-row.lines.items
          c.push_beside.new.lines.items c.loop-row.yielded c.in-Some.row c.loop-row.invariant.lines c.in_ok-push_beside.ensures.lines;
      least = least_more (layout_on page) page.columns (style_on page) goals c.args.least.now c.loop-row.least c.push_beside.new.least
          c.loop-row.yielded c.in-Some.row c.loop-row.invariant.least c.in_ok-push_beside.ensures.least;
    }
