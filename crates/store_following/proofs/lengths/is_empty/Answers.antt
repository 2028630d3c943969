use Rattle.store_following.proofs.Asking.{empty_of}
use Rattle.store_following.proofs.lengths.is_empty.Goals as goal

pub returns-clause-empty : goal.returns-clause-empty
returns-clause-empty g c = empty_of (g.D.Disk.seen c.args.device.now) c.in_ok-len.len c.in_ok-len.ensures.value
