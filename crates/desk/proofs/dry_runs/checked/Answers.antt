use Rattle.std.proofs.Common.{refl}
use Rattle.desk.proofs.dry_runs.checked.Goals as goal

pub returns-in-Ok : goal.returns-in-Ok
returns-in-Ok c = rw c.in-Ok.is c.line_reply.ensures

pub returns-in-Err : goal.returns-in-Err
returns-in-Err c = rw c.in-Err.is refl
