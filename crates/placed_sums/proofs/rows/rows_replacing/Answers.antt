use Rattle.placed_sums.proofs.Replacing.{made_rows}
use Rattle.placed_sums.proofs.rows.rows_replacing.Goals as goal

pub returns : goal.returns
returns c = made_rows c.new-rows.result.items c.take_txn.new.rows.items c.push_txn.new.rows.items c.args.old.now c.args.new.now c.new-rows.ensures.items c.in_ok-take_txn.ensures c.in_ok-push_txn.ensures
