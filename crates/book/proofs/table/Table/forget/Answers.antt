use Rattle.std.proofs.Common.{sym, subst}
use Rattle.book.specs.Standing.{Table}
use Rattle.book.specs.Entries.{IsRising}
use Rattle.book.proofs.Tables.{rising-forgotten}
use Rattle.book.proofs.table.Table.forget.Goals as goal

pub invariant_of-self : goal.invariant_of-self
invariant_of-self c = subst (λ (t : Table). IsRising t) (sym c.forget_each.ensures) (rising-forgotten c.args.number c.self.inside.entries.items c.self.invariant)
