use Rattle.follow_commands.proofs.CatchingUp.{catches_up}
use Rattle.follow_commands.proofs.Joining.{leads_on}
use Rattle.follow_commands.proofs.following.follow_source.Goals as goal

pub returns-clause-genuine : goal.returns-clause-genuine
returns-clause-genuine g c =
    leads_on g.J.Source g.D.Disk c.args.source.now c.follow_all.new.source c.args.follower.now c.follow_all.new.follower c.args.tally.now c.follow_all.new.tally c.follow_all.result c.follow_all.ensures

pub returns-clause-whole : goal.returns-clause-whole
returns-clause-whole g c =
    catches_up g.J.Source g.D.Disk c.args.source.now c.follow_all.new.source c.args.follower.now c.follow_all.new.follower c.args.tally.now c.follow_all.new.tally c.follow_all.result c.follow_all.ensures
