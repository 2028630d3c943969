use Rattle.balancing.proofs.Given.{set-again}
use Rattle.balancing.proofs.written.take_txn.Goals as goal

pub returns-clause-others : goal.returns-clause-others
returns-clause-others c = λ txn. set-again c.args.txns.now.items c.args.number c.replace.new.dest txn
