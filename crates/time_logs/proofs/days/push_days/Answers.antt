use Rattle.time_logs.specs.Days.{entry_on}
use Rattle.time_logs.proofs.Ranges.{day_more}
use Rattle.time_logs.proofs.days.push_days.Goals as goal

pub loop-day-preserved : goal.loop-day-preserved
loop-day-preserved c =
    day_more (entry_on c.args.session.now) c.args.txns.now.items c.loop-day.txns.items c.push_entry.new.txns.items
    c.first_day_and_count-first.result.0 c.loop-day.day c.loop-day.auto.day c.loop-day.invariant c.in_ok-push_entry.ensures
