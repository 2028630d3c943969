use Rattle.std.proofs.Common.{◌≡◌, rules}
use Rattle.std.specs.List.{fold}
use Rattle.asked_days.specs.Asked.{days_of}
use Rattle.asked_days.specs.Counts.{counted, uncounted}
use Rattle.asked_days.proofs.Assigning.{assigned-changed}
use Rattle.asked_days.proofs.Keeping.{kept-changed}
use Rattle.asked_days.proofs.asked.AskedDays.exchange.Goals as goal

pub returns-clause-ok : goal.returns-clause-ok
returns-clause-ok c = λ book number h found.
    let gone : c.uncount_txn.new.days ≡ fold uncounted c.args.self.now.days (days_of c.args.old.now) = search rules in
    let noted : c.count_txn.new.days ≡ fold counted c.uncount_txn.new.days (days_of c.args.new.now) = search rules in
    record {
      days = kept-changed book number c.args.old.now c.args.new.now c.args.self.now.days c.uncount_txn.new.days c.count_txn.new.days h.days found gone noted;
      assigned = assigned-changed book number c.args.old.now c.args.new.now c.args.self.now.assigned c.in_ok-fewer.fewer c.in_ok-assigned.assigned h.assigned found c.in_ok-fewer.ensures c.in_ok-assigned.ensures;
    }
