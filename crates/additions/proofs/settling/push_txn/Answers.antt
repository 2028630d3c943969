use Rattle.additions.proofs.Judging.{pushed}
use Rattle.additions.proofs.settling.push_txn.Goals as goal

pub returns : goal.returns
returns c = λ before h. pushed before c.args.all.now.items c.push.new.self.items c.args.txn.now c.in_ok-one.one c.in_ok-push.ensures.items c.in_ok-one.ensures h
