use Rattle.book.proofs.Added.{AreSums-either}
use Rattle.book.proofs.mixed.Mixed.add.Goals as goal

pub invariant_of-self : goal.invariant_of-self
invariant_of-self c = AreSums-either c.add_at.result c.args.symbol.now c.args.value c.self.inside.entries.items c.add_at.new.entries.items c.add_at.ensures.ok c.add_at.ensures.err c.self.invariant

pub invariant_of-self-in-Err : goal.invariant_of-self-in-Err
invariant_of-self-in-Err c = AreSums-either c.add_new.result c.args.symbol.now c.args.value c.self.inside.entries.items c.add_new.new.entries.items c.add_new.ensures.ok c.add_new.ensures.err c.self.invariant
