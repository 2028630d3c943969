use Rattle.std.proofs.Common.{Ok, Err, refl}
use Rattle.command_line.proofs.StoreEnds.{file_kind}
use Rattle.command_line.proofs.store_tasks.load_rules.Goals as goal

pub returns-in-Ok-clause-loads : goal.returns-in-Ok-clause-loads
returns-in-Ok-clause-loads g c = record { read = Ok c.in-Ok.rules; reads = c.in-Ok.ensures; is = refl }

pub returns-in-Err-clause-loads : goal.returns-in-Err-clause-loads
returns-in-Err-clause-loads g c = record { read = Err c.in-Err.refusal; reads = c.in-Err.ensures; is = refl }

pub returns-in-Err-clause-kind : goal.returns-in-Err-clause-kind
returns-in-Err-clause-kind g c = file_kind c.in-Err.refusal c.in-Err.ensures.kind
