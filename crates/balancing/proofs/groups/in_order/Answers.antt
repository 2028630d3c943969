use Rattle.std.proofs.Common.{sym, ap, ◌∙◌}
use Rattle.balancing.specs.Groups.{is_rising}
use Rattle.balancing.proofs.Ordered.{rising-is}
use Rattle.balancing.proofs.groups.in_order.Goals as goal

pub returns-then-is_rising : goal.returns-then-is_rising
returns-then-is_rising c = rising-is c.args.groups.items (ap is_rising (sym c.deref.ensures.value) ∙ sym c.is_rising.ensures ∙ c.if-is_rising.true)
