use Rattle.std.proofs.Common.{sym}
use Rattle.reached_walk.proofs.Ending.{ended}
use Rattle.reached_walk.proofs.Passing.{went}
use Rattle.reached_walk.proofs.walking.Reach.next.Goals as goal

pub returns-in-None : goal.returns-in-None
returns-in-None c = λ edit answered w h. ended edit answered c.args.self.now (sym c.in-None.ensures) h

pub returns-in-Some : goal.returns-in-Some
returns-in-Some c = λ edit answered w h.
    went edit answered c.args.watchers.now w c.args.self.now (record { edited = c.args.self.now.edited; at = c.past-at.result; changes = c.pass_all.new.changes }) c.in-Some.spot
    c.past-at.ensures c.pass_all.ensures (sym c.in-Some.ensures) h
