use Rattle.std.proofs.Common.{◌*◌, ℕ, List, length, take, take_all, sym, subst, arith}
use Rattle.hl_time.specs.declared.spans.Span.{Span}
use Rattle.report_cells.specs.Kept.{Cell}
use Rattle.index_cells.specs.Asks.{nodes_of_cell}
use Rattle.index_cells.specs.Held.{HoldsRow, most_of, summed_in}
use Rattle.index_cells.proofs.Asking.{asks_none, asks_next, asks_one, asks_some}
use Rattle.index_cells.proofs.Rowing.{row_at}
use Rattle.index_cells.proofs.rows.cells_of.Goals as goal

pub loop-column-init : goal.loop-column-init
loop-column-init g c = record {
  cells = subst (λ (cs : List Cell). HoldsRow (summed_in c.args.kept.now c.args.plan.now.reach c.args.plan.now.days c.args.account.now) (most_of c.args.kept.now) cs (take 0 c.args.columns.now)) (sym c.new-cells.ensures.items) tt;
  asked = asks_none (nodes_of_cell c.args.kept.now * 0) c.args.steps.now;
}

pub loop-column-preserved : goal.loop-column-preserved
loop-column-preserved g c =
    let kept = c.args.kept.now in
    let plan = c.args.plan.now in
    let i : ℕ = c.loop-column.column-index in
    record {
      cells = row_at (summed_in kept plan.reach plan.days c.args.account.now) (most_of kept) c.loop-column.cells.items c.push.new.self.items c.args.columns.now i c.in_ok-cell.cell _
          (omega arith) c.loop-column.invariant.cells c.in_ok-cell.ensures.sums c.in_ok-push.ensures.items;
      asked = asks_next (nodes_of_cell kept) i c.args.steps.now c.loop-column.steps c.column_cell.new.steps c.loop-column.invariant.asked c.column_cell.ensures.asked;
    }

pub returns-clause-cells : goal.returns-clause-cells
returns-clause-cells g c =
    let kept = c.args.kept.now in
    let plan = c.args.plan.now in
    let exact = summed_in kept plan.reach plan.days c.args.account.now in
    let whole = take_all c.loop-column.column-index c.args.columns.now (omega arith) in
    subst (λ (cs : List Cell). HoldsRow exact (most_of kept) cs c.args.columns.now) (sym c.from_vec.ensures)
    (subst (λ (ks : List Span). HoldsRow exact (most_of kept) c.loop-column.cells.items ks) whole c.loop-column.invariant.cells)

pub returns-clause-asked : goal.returns-clause-asked
returns-clause-asked g c =
    asks_some (nodes_of_cell c.args.kept.now) c.loop-column.column-index (length c.args.columns.now) c.args.steps.now c.loop-column.steps (omega arith) c.loop-column.invariant.asked

pub returns-in_err-cell-clause-asked : goal.returns-in_err-cell-clause-asked
returns-in_err-cell-clause-asked g c =
    asks_one (nodes_of_cell c.args.kept.now) c.loop-column.column-index (length c.args.columns.now) c.args.steps.now c.loop-column.steps c.column_cell.new.steps (omega arith)
    c.loop-column.invariant.asked c.column_cell.ensures.asked

pub returns-in_err-push-clause-asked : goal.returns-in_err-push-clause-asked
returns-in_err-push-clause-asked g c =
    asks_one (nodes_of_cell c.args.kept.now) c.loop-column.column-index (length c.args.columns.now) c.args.steps.now c.loop-column.steps c.column_cell.new.steps (omega arith)
    c.loop-column.invariant.asked c.column_cell.ensures.asked
