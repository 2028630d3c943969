use Rattle.rule_entries.proofs.Totals.{excess_no, excess_yes}
use Rattle.rule_entries.proofs.counting.excess_over.Goals as goal

pub returns-then-limit-count : goal.returns-then-limit-count
returns-then-limit-count c = λ all is. excess_yes c.args.limit c.args.count all c.if-limit-count.true is

pub returns-else-limit-count : goal.returns-else-limit-count
returns-else-limit-count c = λ all is. excess_no c.args.limit c.args.count all c.if-limit-count.false c.requires is
