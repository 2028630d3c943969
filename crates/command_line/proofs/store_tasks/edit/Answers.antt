use Rattle.std.proofs.Common.{Ok, Err, refl}
use Rattle.command_line.proofs.store_tasks.edit.Goals as goal

pub returns-in-Ok-clause-edits : goal.returns-in-Ok-clause-edits
returns-in-Ok-clause-edits g c = record { asked = Ok c.in-Ok.reply; edits = c.in-Ok.ensures.edits; told = c.answer_reply.ensures.told; rest = refl }

pub returns-in-Err-clause-edits : goal.returns-in-Err-clause-edits
returns-in-Err-clause-edits g c = record { asked = Err c.in-Err.refusal; edits = c.in-Err.ensures.edits; told = c.refuse_journal.ensures.refused; rest = refl }
