use Rattle.follow_commands.specs.Walks.{IsLedOn}
use Rattle.follow_commands.proofs.following.follow_all.Given as goal

abbrev pub invariant-loop : goal.invariant-loop
invariant-loop g l = IsLedOn g.J.Source g.D.Disk l.fn.source l.source l.fn.follower l.follower l.fn.tally l.tally
