use Rattle.std.proofs.Common.{◌∙◌}
use Rattle.shared_days.specs.Days.{numbers_now}
use Rattle.shared_days.proofs.Numbers.{numbers-added}
use Rattle.shared_days.proofs.days.SharedDays.added.Goals as goal

pub returns : goal.returns
returns c = λ book h end day.
    numbers-added day.0 c.args.number book c.args.txn.now (numbers_now day c.in_ok-days.days) (numbers_now day c.put_txn.new.days) end
    (c.in_ok-days.ensures day ∙ h day) (c.in_ok-put_txn.ensures day)
