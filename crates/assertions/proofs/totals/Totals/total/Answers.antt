use Rattle.std.proofs.Common.{sym, ◌∙◌}
use Rattle.entry_balance.proofs.Totals.{total-some, total-none}
use Rattle.assertions.proofs.totals.Totals.total.Goals as goal

pub returns-in-Some : goal.returns-in-Some
returns-in-Some c = λ values h. total-some c.args.symbol.now values c.in-Some.sum c.args.self.now h (sym c.held.ensures ∙ c.in-Some.is)

pub returns-in-None : goal.returns-in-None
returns-in-None c = λ values h. c.zero.ensures ∙ total-none c.args.symbol.now values c.args.self.now h (sym c.held.ensures ∙ c.in-None.is)
