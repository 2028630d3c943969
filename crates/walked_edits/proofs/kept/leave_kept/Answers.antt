use Rattle.walked_edits.proofs.Keeping.{has_left}
use Rattle.walked_edits.proofs.kept.leave_kept.Goals as goal

pub returns : goal.returns
returns c = has_left c.args.number c.args.old.now c.args.held.now c.args.kept.now c.take_kept.new.kept c.leave_days.new.days c.in_ok-take_kept.ensures c.in_ok-leave_days.ensures
