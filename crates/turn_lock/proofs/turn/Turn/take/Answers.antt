use Rattle.turn_lock.proofs.Standings.{idle_as}
use Rattle.turn_lock.proofs.turn.Turn.take.Goals as goal

pub acquire-requires-clause-idle : goal.acquire-requires-clause-idle
acquire-requires-clause-idle g c κs within = idle_as c.pass.inside.seat c.pass.inside.live c.args.pass.now c.pass.view_is c.pass.invariant c.requires.1
