use Rattle.follower.proofs.Following.{never_falls}
use Rattle.follower.proofs.histories.genuine_frames_lead_on.Goals as goal

pub returns : goal.returns
returns c = λ start changes n shown end steps here genuine leads. never_falls start changes n shown end steps here genuine leads
