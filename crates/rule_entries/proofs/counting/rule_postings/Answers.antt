use Rattle.std.proofs.Common.{◌∙◌}
use Rattle.rule_entries.specs.Occurring.{days_of}
use Rattle.rule_entries.proofs.Totals.{postings_told}
use Rattle.rule_entries.proofs.counting.rule_postings.Goals as goal

pub returns : goal.returns
returns c =
    postings_told c.args.rule.now (days_of c.args.rule.now.period c.args.window) c.from.result c.len-each.result c.saturating_mul.result
    (c.from.ensures ∙ c.day_count.ensures.count) c.len-each.ensures c.saturating_mul.ensures
