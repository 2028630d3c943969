use Rattle.std.proofs.Common.{sym, ◌∙◌}
use Rattle.rule_entries.specs.Occurring.{days_seen}
use Rattle.rule_entries.proofs.Recurring.{day_from, never_seen}
use Rattle.rule_entries.proofs.days.recurring.Goals as goal

pub returns-then-not-is_day-clause-seen : goal.returns-then-not-is_day-clause-seen
returns-then-not-is_day-clause-seen c =
    never_seen c.args.interval c.args.start c.args.span (days_seen c.never.result) (sym c.is_day.ensures ∙ c.if-not-is_day.true) c.never.ensures.seen

pub between-requires-clause-start : goal.between-requires-clause-start
between-requires-clause-start c = day_from c.args.start (sym c.is_day.ensures ∙ c.if-not-is_day.false)
