use Rattle.changed_texts.proofs.Txns.{old_txn, txns_changed}
use Rattle.changed_texts.proofs.laws.transactions_of_a_change.Goals as goal

pub returns-clause-old : goal.returns-clause-old
returns-clause-old c year text items n p of read = old_txn year text items n p of read

pub returns-clause-changed : goal.returns-clause-changed
returns-clause-changed c by items n old new t u here was becomes = txns_changed by items n old new t u here was becomes
