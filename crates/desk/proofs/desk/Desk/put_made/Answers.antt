use Rattle.std.proofs.Common.{Some, ap}
use Rattle.desk.specs.Reading.{is_planned}
use Rattle.desk.proofs.Served.{out_of_memory}
use Rattle.desk.proofs.desk.Desk.put_made.Goals as goal

pub returns-in-Ok-clause-served : goal.returns-in-Ok-clause-served
returns-in-Ok-clause-served g c = c.put_ready.ensures.served

pub returns-in-Ok-clause-counts : goal.returns-in-Ok-clause-counts
returns-in-Ok-clause-counts g c = c.put_ready.ensures.counts

pub returns-in-Ok-clause-accepted : goal.returns-in-Ok-clause-accepted
returns-in-Ok-clause-accepted g c = c.put_ready.ensures.accepted

pub returns-in-Err-clause-served : goal.returns-in-Err-clause-served
returns-in-Err-clause-served g c = rw c.dropped.ensures (out_of_memory _ (Some c.args.deed.now) c.args.self.now)

pub returns-in-Err-clause-accepted : goal.returns-in-Err-clause-accepted
returns-in-Err-clause-accepted g c = ap is_planned c.dropped.ensures
