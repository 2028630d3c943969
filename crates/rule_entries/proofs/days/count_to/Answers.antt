use Rattle.rule_entries.proofs.Recurring.{all_halved, halved_all}
use Rattle.rule_entries.proofs.days.count_to.Goals as goal

pub loop-low-init : goal.loop-low-init
loop-low-init c = all_halved c.args.start.0 c.args.interval c.args.day

pub returns : goal.returns
returns c = halved_all c.args.start.0 c.args.interval c.args.day c.loop-low.low c.loop-low.high c.loop-low.invariant c.loop-low-test.false
