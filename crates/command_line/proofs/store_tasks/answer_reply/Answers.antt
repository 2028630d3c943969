use Rattle.command_line.proofs.StoreEnds.{reply_kind}
use Rattle.command_line.proofs.store_tasks.answer_reply.Goals as goal

pub returns-in-Ok-clause-kind : goal.returns-in-Ok-clause-kind
returns-in-Ok-clause-kind c =
    reply_kind c.args.reply.now c.reply_status-status.result c.in-Ok.line c.told_line.result c.reply_status-status.ensures c.told_line.ensures
