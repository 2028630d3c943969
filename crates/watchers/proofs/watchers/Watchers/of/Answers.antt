use Rattle.watchers.specs.Watches.{numbered_from}
use Rattle.watchers.proofs.Members.{AreOf-all}
use Rattle.watchers.proofs.watchers.Watchers.of.Goals as goal

pub returns : goal.returns
returns c = AreOf-all (numbered_from 0 c.args.txns.now) c.in_ok-watches_in_all.field-0 c.in_ok-watches_in_all.ensures
