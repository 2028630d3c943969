use Rattle.store_feeding.proofs.FedDisks.{feeds_open}
use Rattle.store_feeding.proofs.feeding.feed_open.Goals as goal

pub returns : goal.returns
returns g c =
    let e = c.feed-fed.ensures in
    feeds_open g.D.Disk c.args.store c.feed-fed.new.self (c.close-first.result.0, c.close-first.result.1) c.close-first.ensures e.held e.any_moment e.keeps
    c.feed-fed.result c.of_fed.result c.of_fed.ensures e.frames e.cause e.no_fault
