use Rattle.std.proofs.Common.{◌∙◌}
use Rattle.shared_days.specs.Days.{numbers_now}
use Rattle.shared_days.proofs.Numbers.{numbers-changed}
use Rattle.shared_days.proofs.days.SharedDays.exchanged.Goals as goal

pub returns : goal.returns
returns c = λ book h found day.
    numbers-changed day.0 c.args.number book c.args.old.now c.args.new.now (numbers_now day c.in_ok-days.days) (numbers_now day c.take_txn.new.days) (numbers_now day c.put_txn.new.days) found
    (c.in_ok-days.ensures day ∙ h day) (c.in_ok-take_txn.ensures day) (c.in_ok-put_txn.ensures day)
