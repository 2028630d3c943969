use Rattle.follower.proofs.Following.{leads_of}
use Rattle.follower.proofs.follower.Follower.accept.Goals as goal

pub returns-clause-leads : goal.returns-clause-leads
returns-clause-leads g c = leads_of c.args.self.now c.take.new.self c.args.frame.now c.take.result c.take.ensures.becomes
