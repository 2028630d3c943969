use Rattle.book.proofs.Tables.{rising-either}
use Rattle.book.proofs.table.Table.note.Goals as goal

pub invariant_of-self : goal.invariant_of-self
invariant_of-self c = rising-either c.put_at.result c.args.number c.self.inside.entries.items c.put_at.new.entries.items (c.args.symbol.now, c.args.style) c.put_at.ensures.ok c.put_at.ensures.err c.self.invariant

pub invariant_of-self-in-Err : goal.invariant_of-self-in-Err
invariant_of-self-in-Err c = rising-either c.put_new.result c.args.number c.self.inside.entries.items c.put_new.new.entries.items (c.args.symbol.now, c.args.style) c.put_new.ensures.ok c.put_new.ensures.err c.self.invariant
