use Rattle.std.proofs.Common.{arith}
use Rattle.std.proofs.lemmas.List.{length-map}
use Rattle.rule_entries.specs.Making.{txn_on}
use Rattle.rule_entries.specs.Occurring.{days_of}
use Rattle.rule_entries.proofs.counting.rule_txns.Goals as goal

pub returns : goal.returns
returns c =
    omega (arith, c.from.ensures, c.day_count.ensures.count, c.day_count.ensures.few, length-map (days_of c.args.rule.now.period c.args.window) (txn_on c.args.rule.now))
