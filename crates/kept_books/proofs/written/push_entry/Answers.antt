use Rattle.std.proofs.Common.{ap}
use Rattle.std.specs.Option.{option_copied}
use Rattle.kept_books.proofs.Numbering.{entry_none, entry_some}
use Rattle.kept_books.proofs.written.push_entry.Goals as goal

pub returns-in-Some : goal.returns-in-Some
returns-in-Some c =
    entry_some c.push_lent.result c.args.txns.now.items c.push_lent.new.txns.items (option_copied c.entry.result) c.in-Some.txn.now c.args.item.now c.entry.ensures (ap option_copied c.in-Some.is) c.push_lent.ensures

pub returns-in-None : goal.returns-in-None
returns-in-None c = entry_none c.args.txns.now.items (option_copied c.entry.result) c.args.item.now c.entry.ensures (ap option_copied c.in-None.is)
