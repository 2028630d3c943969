use Rattle.store_following.proofs.LedLaws.{is_led}
use Rattle.store_following.proofs.replicas.lead.Goals as goal

pub returns : goal.returns
returns g c =
    let d = c.follow_source-done in
    is_led g.J.Source g.D.Disk c.args.source.now d.new.source c.args.follower d.new.follower c.args.tally d.new.tally d.result d.ensures.follows d.ensures.genuine
    c.revision_of-revision.result c.revision_of-revision.ensures c.close-first.result c.close-first.ensures c.told_of.result c.told_of.ensures
