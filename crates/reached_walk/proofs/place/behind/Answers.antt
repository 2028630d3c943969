use Rattle.std.proofs.Common.{sym, ◌∙◌}
use Rattle.reached_walk.proofs.Awaiting.{before-first, behind-first}
use Rattle.reached_walk.proofs.place.behind.Goals as goal

pub returns-then-is_number : goal.returns-then-is_number
returns-then-is_number c = behind-first c.args.spots.now c.args.at c.args.next.now c.args.spot c.requires.there (sym c.is_number.ensures ∙ c.if-is_number.true)

pub returns-else-is_number : goal.returns-else-is_number
returns-else-is_number c = before-first c.args.spots.now c.args.at c.args.next.now c.args.spot c.requires.there (sym c.is_number.ensures ∙ c.if-is_number.false)
