use Rattle.std.proofs.Common.{◌≡◌, rules}
use Rattle.std.specs.List.{fold}
use Rattle.asked_days.specs.Asked.{days_of}
use Rattle.asked_days.specs.Counts.{counted}
use Rattle.asked_days.proofs.Assigning.{assigned-behind}
use Rattle.asked_days.proofs.Keeping.{kept-behind}
use Rattle.asked_days.proofs.asked.AskedDays.add.Goals as goal

pub returns-clause-ok : goal.returns-clause-ok
returns-clause-ok c = λ book h.
    let noted : c.count_txn.new.days ≡ fold counted c.args.self.now.days (days_of c.args.txn.now) = search rules in
    record {
      days = kept-behind book c.args.txn.now c.args.self.now.days c.count_txn.new.days h.days noted;
      assigned = assigned-behind book c.args.txn.now c.args.self.now.assigned c.in_ok-assigned.assigned h.assigned c.in_ok-assigned.ensures;
    }
