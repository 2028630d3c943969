use Rattle.command_line.proofs.StoreEnds.{replied_kind}
use Rattle.command_line.proofs.bank_faults.refuse_above.Goals as goal

pub returns-in-Ok-clause-kind : goal.returns-in-Ok-clause-kind
returns-in-Ok-clause-kind c = replied_kind c.args.reply.now c.reply_status-status.result c.in-Ok.line c.reply_status-status.ensures
