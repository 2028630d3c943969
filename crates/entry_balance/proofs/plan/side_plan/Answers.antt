use Rattle.std.proofs.Common.{sym, ◌∙◌}
use Rattle.std.proofs.lemmas.Bool.{false≢true}
use Rattle.entry_balance.proofs.Sides.{none_missing}
use Rattle.entry_balance.proofs.plan.side_plan.Goals as goal

pub returns-then-lacks_side-clause-found : goal.returns-then-lacks_side-clause-found
returns-then-lacks_side-clause-found c =
    λ h. absurd (false≢true (none_missing c.args.side c.args.postings.now (sym c.lacks_side.ensures ∙ c.if-lacks_side.true) ∙ h))

pub returns-then-lacks_side-clause-misses : goal.returns-then-lacks_side-clause-misses
returns-then-lacks_side-clause-misses c = none_missing c.args.side c.args.postings.now (sym c.lacks_side.ensures ∙ c.if-lacks_side.true)
