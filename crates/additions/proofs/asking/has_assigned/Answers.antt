use Rattle.std.proofs.Common.{◌∙◌}
use Rattle.additions.proofs.Unassigned.{any_flat}
use Rattle.additions.proofs.asking.has_assigned.Goals as goal

pub returns : goal.returns
returns c = c.any_txn_assigned.ensures ∙ any_flat c.args.txns.now
