use Rattle.std.proofs.Common.{◌∙◌}
use Rattle.turn_lock.proofs.steps.acquire.Goals as goal

pub try_once-requires-clause-idle : goal.try_once-requires-clause-idle
try_once-requires-clause-idle g c κs within = let idle = c.requires.idle in (idle.0, c.loop.invariant.2 ∙ idle.1, idle.2)
