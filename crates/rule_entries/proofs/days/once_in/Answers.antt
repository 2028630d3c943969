use Rattle.std.proofs.Common.{sym, ◌∙◌}
use Rattle.rule_entries.specs.Occurring.{days_seen}
use Rattle.rule_entries.proofs.Recurring.{day_in, none_seen, one_seen}
use Rattle.rule_entries.proofs.days.once_in.Goals as goal

pub once-requires : goal.once-requires
once-requires c = day_in c.args.span c.args.day (sym c.lies_in.ensures ∙ c.if-lies_in.true) c.requires.first c.requires.last

pub returns-then-lies_in-clause-seen : goal.returns-then-lies_in-clause-seen
returns-then-lies_in-clause-seen c =
    one_seen c.args.span c.args.day (days_seen c.once.result) (sym c.lies_in.ensures ∙ c.if-lies_in.true) c.once.ensures.seen

pub returns-clause-seen : goal.returns-clause-seen
returns-clause-seen c =
    none_seen c.args.span c.args.day (days_seen c.never.result) (sym c.lies_in.ensures ∙ c.if-lies_in.false) c.never.ensures.seen
