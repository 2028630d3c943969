use Rattle.std.proofs.Common.{◌<◌, leb-false, leb-true, sym, ◌∙◌, arith}
use Rattle.rule_entries.specs.Occurring.{days_seen}
use Rattle.rule_entries.proofs.Recurring.{alone_told, empty_told, recurring_told}
use Rattle.rule_entries.proofs.days.occasions_in.Goals as goal

pub returns-then-has_no_day-clause-seen : goal.returns-then-has_no_day-clause-seen
returns-then-has_no_day-clause-seen c =
    empty_told c.args.period c.args.window c.narrowed-span.result (days_seen c.never.result) c.narrowed-span.ensures.span
    (leb-true _ _ (sym c.has_no_day.ensures ∙ c.if-has_no_day.true)) c.never.ensures.seen

pub counted_from-requires : goal.counted_from-requires
counted_from-requires c =
    let some : c.narrowed-span.result.from < c.narrowed-span.result.end = leb-false _ _ (sym c.has_no_day.ensures ∙ c.if-has_no_day.false) in
    (omega arith, omega arith)

pub recurring-requires : goal.recurring-requires
recurring-requires c =
    let some : c.narrowed-span.result.from < c.narrowed-span.result.end = leb-false _ _ (sym c.has_no_day.ensures ∙ c.if-has_no_day.false) in
    record { first = omega arith; some = some; last = omega arith }

pub returns-in-Some-clause-seen : goal.returns-in-Some-clause-seen
returns-in-Some-clause-seen c =
    recurring_told c.args.period c.args.window c.narrowed-span.result (days_seen c.recurring.result) c.narrowed-span.ensures.span
    c.in-Some.interval c.counted_from.result c.in-Some.is c.counted_from.ensures c.recurring.ensures.seen

pub returns-in-None-clause-seen : goal.returns-in-None-clause-seen
returns-in-None-clause-seen c =
    alone_told c.args.period c.args.window c.narrowed-span.result (days_seen c.alone.result) c.narrowed-span.ensures.span
    c.in-None.is c.alone.ensures.seen
