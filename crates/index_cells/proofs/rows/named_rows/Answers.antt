use Rattle.std.proofs.Common.{◌≡◌, ◌<◌, ◌*◌, ℕ, List, length, get_or, take, take_all, ap, sym, subst, arith}
use Rattle.report_cells.specs.declared.cells.CellRow.{CellRow}
use Rattle.index_cells.specs.Asks.{nodes_of_cell}
use Rattle.index_cells.specs.Held.{HoldsRows, most_of, summed_in}
use Rattle.index_cells.proofs.Asking.{asks_none, asks_next, asks_one, asks_some}
use Rattle.index_cells.proofs.Rowing.{rows_more}
use Rattle.index_cells.proofs.rows.named_rows.Goals as goal

pub loop-account-init : goal.loop-account-init
loop-account-init g c = record {
  rows = subst (λ (rs : List CellRow). HoldsRows (summed_in c.args.kept.now c.args.plan.now.reach c.args.plan.now.days) (most_of c.args.kept.now) c.args.plan.now.columns.now rs (take 0 c.args.kept.now.accounts))
      (sym c.new-rows.ensures.items) tt;
  asked = asks_none (nodes_of_cell c.args.kept.now * length c.args.plan.now.columns.now * 0) c.args.steps.now;
}

pub loop-account-preserved : goal.loop-account-preserved
loop-account-preserved g c =
    let kept = c.args.kept.now in
    let plan = c.args.plan.now in
    let i : ℕ = c.loop-account.account-index in
    let x : List ℕ = c.account-item.result in
    let same = c.as_slice-account-items.ensures in
    let inside : i < length kept.accounts = omega (arith, ap length same) in
    record {
      rows = rows_more kept plan c.loop-account.rows.items c.push.new.self.items c.in_ok-row.row x i inside (subst (λ (xs : List (List ℕ)). x ≡ get_or xs i x) same c.account-item.is)
          c.in_ok-row.ensures.account c.in_ok-row.ensures.cells c.in_ok-push.ensures.items c.loop-account.invariant.rows;
      asked = asks_next (nodes_of_cell kept * length plan.columns.now) i c.args.steps.now c.loop-account.steps c.row_of.new.steps c.loop-account.invariant.asked c.row_of.ensures.asked;
    }

pub returns-clause-rows : goal.returns-clause-rows
returns-clause-rows g c =
    let kept = c.args.kept.now in
    let plan = c.args.plan.now in
    let whole = take_all c.loop-account.account-index kept.accounts (omega (arith, ap length c.as_slice-account-items.ensures)) in
    subst (λ (rs : List CellRow). HoldsRows (summed_in kept plan.reach plan.days) (most_of kept) plan.columns.now rs kept.accounts) (sym c.from_vec.ensures)
    (subst (λ (accounts : List (List ℕ)). HoldsRows (summed_in kept plan.reach plan.days) (most_of kept) plan.columns.now c.loop-account.rows.items accounts) whole c.loop-account.invariant.rows)

pub returns-clause-asked : goal.returns-clause-asked
returns-clause-asked g c =
    asks_some (nodes_of_cell c.args.kept.now * length c.args.plan.now.columns.now) c.loop-account.account-index (length c.args.kept.now.accounts) c.args.steps.now c.loop-account.steps (omega (arith, ap length c.as_slice-account-items.ensures)) c.loop-account.invariant.asked

pub returns-in_err-row-clause-asked : goal.returns-in_err-row-clause-asked
returns-in_err-row-clause-asked g c =
    asks_one (nodes_of_cell c.args.kept.now * length c.args.plan.now.columns.now) c.loop-account.account-index (length c.args.kept.now.accounts) c.args.steps.now c.loop-account.steps c.row_of.new.steps (omega (arith, ap length c.as_slice-account-items.ensures))
    c.loop-account.invariant.asked c.row_of.ensures.asked

pub returns-in_err-push-clause-asked : goal.returns-in_err-push-clause-asked
returns-in_err-push-clause-asked g c =
    asks_one (nodes_of_cell c.args.kept.now * length c.args.plan.now.columns.now) c.loop-account.account-index (length c.args.kept.now.accounts) c.args.steps.now c.loop-account.steps c.row_of.new.steps (omega (arith, ap length c.as_slice-account-items.ensures))
    c.loop-account.invariant.asked c.row_of.ensures.asked
