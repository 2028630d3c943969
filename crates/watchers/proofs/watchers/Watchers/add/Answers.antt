use Rattle.std.proofs.Common.{◌≡◌, sym, ap, ◌∙◌, rules}
use Rattle.watchers.specs.Walk.{put_all, watches_from}
use Rattle.watchers.proofs.Members.{AreOf-with}
use Rattle.watchers.proofs.watchers.Watchers.add.Goals as goal

pub returns-clause-ok : goal.returns-clause-ok
returns-clause-ok c = λ standing are.
    let put : c.put_txn.new.watches ≡ put_all c.args.self.now (watches_from c.args.txn.now c.args.number 0 c.args.txn.now.postings) = search rules in
    AreOf-with c.args.number c.args.txn.now standing c.args.self.now c.put_txn.new.watches put are
