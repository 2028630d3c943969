use Rattle.kept_books.proofs.Numbering.{lent_more}
use Rattle.kept_books.proofs.written.push_lent.Goals as goal

pub returns : goal.returns
returns c = lent_more c.args.txns.now.items c.push.new.self.items c.args.txn c.in_ok-push.ensures.items
