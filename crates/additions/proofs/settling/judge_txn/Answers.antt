use Rattle.additions.proofs.Judging.{judged_is}
use Rattle.additions.proofs.settling.judge_txn.Goals as goal

pub returns : goal.returns
returns c =
    judged_is c.args.txn.now c.in_ok-copy.copy c.with_first.result c.in_ok-settled.settled.txn c.in_ok-settled.settled.cause c.first_day-first.result c.in_ok-copy.ensures c.in_ok-settled.ensures c.with_first.ensures c.first_day-first.ensures
