use Rattle.std.proofs.Common.{Ok, Err, refl}
use Rattle.command_line.proofs.store_tasks.replace_by.Goals as goal

pub returns-in-Ok-clause-replaces : goal.returns-in-Ok-clause-replaces
returns-in-Ok-clause-replaces g c = record { asked = Ok c.in-Ok.reply; replaces = c.in-Ok.ensures.replaces; told = c.answer_reply.ensures.told; rest = refl }

pub returns-in-Err-clause-replaces : goal.returns-in-Err-clause-replaces
returns-in-Err-clause-replaces g c = record { asked = Err c.in-Err.refusal; replaces = c.in-Err.ensures.replaces; told = c.refuse_journal.ensures.refused; rest = refl }
