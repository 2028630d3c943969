use Rattle.live_journal.proofs.Copying.{copy_pushed}
use Rattle.live_journal.proofs.entries.push_copy.Goals as goal

pub returns : goal.returns
returns c = copy_pushed c.args.copies.now.items c.push.new.self.items c.args.piece c.args.txn.now c.in_ok-copy.copy c.in_ok-push.ensures.items c.in_ok-copy.ensures
