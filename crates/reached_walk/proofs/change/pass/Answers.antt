use Rattle.std.proofs.Common.{refl}
use Rattle.reached_walk.proofs.change.pass.Goals as goal

pub returns : goal.returns
returns c = record { next = c.renewed-next.result; is = refl; renewed = c.renewed-next.ensures }
