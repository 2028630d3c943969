use Rattle.std.proofs.Common.{Ok, Err, refl}
use Rattle.command_line.proofs.frames.follow.Goals as goal

pub returns-in-Ok-clause-follows : goal.returns-in-Ok-clause-follows
returns-in-Ok-clause-follows g c = record { made = Ok c.in-Ok.followed; follows = c.in-Ok.ensures; told = c.followed_said.ensures.told; rest = refl }

pub returns-in-Err-clause-follows : goal.returns-in-Err-clause-follows
returns-in-Err-clause-follows g c = record { made = Err c.in-Err.refusal; follows = c.in-Err.ensures; told = c.refuse_frames.ensures.refused; rest = refl }
