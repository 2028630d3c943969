use Rattle.follower.proofs.Following.{begins}
use Rattle.follower.proofs.histories.genuine_snapshots_begin.Goals as goal

pub returns : goal.returns
returns c = λ start changes frame shown genuine kind is. begins start changes frame shown genuine kind is
