use Rattle.command_line.proofs.StoreEnds.{journal_kind}
use Rattle.command_line.proofs.store_tasks.refuse_journal.Goals as goal

pub returns-in-Ok-clause-kind : goal.returns-in-Ok-clause-kind
returns-in-Ok-clause-kind c = journal_kind c.args.refusal.now c.journal_status-status.result c.in-Ok.line c.journal_status-status.ensures
