use Rattle.std.proofs.Common.{◌≤◌, length, sym, rules}
use Rattle.balancing.proofs.Back.{set_past}
use Rattle.balancing.proofs.written.put_txn.Goals as goal

pub returns-then-len-number : goal.returns-then-len-number
returns-then-len-number c =
    let past : length c.args.txns.now.items ≤ c.args.number = search rules in
    sym (set_past c.args.txns.now.items c.args.number c.args.txn past)
