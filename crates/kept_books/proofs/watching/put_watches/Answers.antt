use Rattle.std.specs.Option.{option_copied}
use Rattle.kept_books.proofs.Renewing.{puts_watches}
use Rattle.kept_books.proofs.watching.put_watches.Goals as goal

pub returns : goal.returns
returns c =
    puts_watches c.args.number (option_copied c.args.old) c.args.txn.now c.args.watchers.now c.leave_watches.new.watchers c.add.new.self c.in_ok-leave_watches.ensures c.in_ok-add.ensures.ok
