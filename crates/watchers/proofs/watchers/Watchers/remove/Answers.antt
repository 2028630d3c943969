use Rattle.std.proofs.Common.{◌≡◌, sym, ap, ◌∙◌, rules}
use Rattle.watchers.specs.Walk.{gone_all, watches_from}
use Rattle.watchers.proofs.Members.{AreOf-without}
use Rattle.watchers.proofs.watchers.Watchers.remove.Goals as goal

pub returns-clause-ok : goal.returns-clause-ok
returns-clause-ok c = λ standing are stands.
    let gone : c.remove_txn.new.watches ≡ gone_all c.args.self.now (watches_from c.args.txn.now c.args.number 0 c.args.txn.now.postings) = search rules in
    AreOf-without c.args.number c.args.txn.now standing c.args.self.now c.remove_txn.new.watches gone are stands
