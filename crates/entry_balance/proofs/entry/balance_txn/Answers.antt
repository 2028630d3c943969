use Rattle.entry_balance.proofs.entry.balance_txn.Goals as goal

pub returns-in-Ok : goal.returns-in-Ok
returns-in-Ok c = c.told.ensures c.args.txn c.requires c.in-Ok.ensures
