use Rattle.std.proofs.Common.{Option, sym, ap, ◌∙◌}
use Rattle.book.specs.Entries.{held}
use Rattle.entry_balance.specs.Tally.{only_sum}
use Rattle.entry_balance.proofs.Named.{Entry}
use Rattle.entry_balance.proofs.Only.{held_same, held_other}
use Rattle.entry_balance.proofs.tally.only_held.Goals as goal

pub returns-then-eq : goal.returns-then-eq
returns-then-eq c = sym (ap (λ (o : Option Entry). held c.args.symbol.now (only_sum o)) c.in-Some.is ∙ held_same c.args.symbol.now c.in-Some.sum.0.now c.in-Some.sum.1 (sym c.eq.ensures ∙ c.if-eq.true))

pub returns-else-eq : goal.returns-else-eq
returns-else-eq c = sym (ap (λ (o : Option Entry). held c.args.symbol.now (only_sum o)) c.in-Some.is ∙ held_other c.args.symbol.now c.in-Some.sum.0.now c.in-Some.sum.1 (sym c.eq.ensures ∙ c.if-eq.false))
