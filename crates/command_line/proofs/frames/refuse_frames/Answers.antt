use Rattle.command_line.proofs.StoreEnds.{follow_kind}
use Rattle.command_line.proofs.frames.refuse_frames.Goals as goal

pub returns-in-Ok-clause-kind : goal.returns-in-Ok-clause-kind
returns-in-Ok-clause-kind c = follow_kind c.args.refusal c.follow_status-status.result c.in-Ok.line c.follow_status-status.ensures
