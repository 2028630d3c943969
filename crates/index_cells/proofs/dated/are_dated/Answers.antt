use Rattle.std.proofs.Common.{sym, ◌∙◌, arith}
use Rattle.index_cells.specs.Posted.{is_dated}
use Rattle.index_cells.proofs.Dating.{all_so_far, all_whole, dated_where, not_dated, one_fails}
use Rattle.index_cells.proofs.dated.are_dated.Goals as goal

pub loop-txn-preserved : goal.loop-txn-preserved
loop-txn-preserved c =
    all_so_far is_dated c.args.txns.now c.loop-txn.txn-index c.txn-item.result (omega arith) c.txn-item.is c.loop-txn.invariant (sym c.is_dated-dated.ensures ∙ c.if-not-dated.false)

pub returns-then-not-dated : goal.returns-then-not-dated
returns-then-not-dated c =
    not_dated c.args.txns.now (one_fails is_dated c.args.txns.now c.loop-txn.txn-index c.txn-item.result (omega arith) c.txn-item.is (sym c.is_dated-dated.ensures ∙ c.if-not-dated.true))

pub returns : goal.returns
returns c = dated_where c.args.txns.now (all_whole is_dated c.args.txns.now c.loop-txn.txn-index (omega arith) c.loop-txn.invariant)
