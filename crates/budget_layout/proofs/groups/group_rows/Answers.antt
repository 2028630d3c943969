use Rattle.std.proofs.Common.{[], ◌∙◌, arith}
use Rattle.budget_layout.proofs.groups.group_rows.Goals as goal

pub returns-in-Some : goal.returns-in-Some
returns-in-Some c = c.rows.ensures ∙ c.in-Some.ensures.lookup.4 (omega arith) []

pub returns-in-None : goal.returns-in-None
returns-in-None c = c.in-None.ensures.lookup.4 (omega arith) []
