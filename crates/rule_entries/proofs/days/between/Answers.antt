use Rattle.std.proofs.Common.{arith}
use Rattle.rule_entries.proofs.Recurring.{counts_ordered, recurring_days, recurring_seen}
use Rattle.rule_entries.proofs.days.between.Goals as goal

pub overflow_sub-count : goal.overflow_sub-count
overflow_sub-count c =
    counts_ordered c.args.start.0 c.args.interval c.args.span c.count_to-first.result c.count_to-after.result c.requires.some c.count_to-first.ensures c.count_to-after.ensures

pub returns : goal.returns
returns c =
    let ordered = counts_ordered c.args.start.0 c.args.interval c.args.span c.count_to-first.result c.count_to-after.result c.requires.some c.count_to-first.ensures c.count_to-after.ensures in
    record {
      seen = recurring_seen c.args.start.0 c.args.interval c.args.span c.count_to-first.result c.count_to-after.result c.requires.start c.requires.some c.count_to-first.ensures c.count_to-after.ensures;
      days = recurring_days _ c.args.span c.count_to-after.result c.requires.start c.requires.first c.requires.some c.requires.last c.count_to-first.ensures c.count_to-after.ensures (omega (arith, ordered));
    }
