use Rattle.std.proofs.Common.{Ok, Err}
use Rattle.command_line.proofs.store_tasks.make_store.Goals as goal

pub returns-in-Ok-clause-made : goal.returns-in-Ok-clause-made
returns-in-Ok-clause-made g c = (Ok tt, c.in-Ok.ensures, c.new.ensures)

pub returns-in-Err-clause-made : goal.returns-in-Err-clause-made
returns-in-Err-clause-made g c = (Err c.in-Err.refusal, c.in-Err.ensures, c.refuse_journal.ensures.refused)
