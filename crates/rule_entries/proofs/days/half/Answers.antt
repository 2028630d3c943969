use Rattle.std.proofs.Common.{◌+◌, ◌-◌, ◌/◌, ltb-true, ltb-false, sym, ◌∙◌, arith}
use Rattle.rule_entries.proofs.Recurring.{lower_half, upper_half}
use Rattle.rule_entries.proofs.days.half.Goals as goal

pub returns-then-is_before-clause-halved : goal.returns-then-is_before-clause-halved
returns-then-is_before-clause-halved c =
    upper_half c.args.start.0 c.args.interval c.args.day c.args.low c.args.high (c.args.low + (c.args.high - c.args.low) / 2) c.requires.halved
    (omega arith) (ltb-true _ _ (sym c.is_before.ensures ∙ c.if-is_before.true))

pub returns-else-is_before-clause-halved : goal.returns-else-is_before-clause-halved
returns-else-is_before-clause-halved c =
    lower_half c.args.start.0 c.args.interval c.args.day c.args.low c.args.high (c.args.low + (c.args.high - c.args.low) / 2) c.requires.halved
    (omega arith) (omega arith) (ltb-false _ _ (sym c.is_before.ensures ∙ c.if-is_before.false))
