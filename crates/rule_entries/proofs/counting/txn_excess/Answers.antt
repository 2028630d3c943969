use Rattle.std.proofs.Common.{length}
use Rattle.rule_entries.specs.Making.{made_of}
use Rattle.rule_entries.proofs.counting.txn_excess.Goals as goal

pub returns : goal.returns
returns c = c.excess_over.ensures (length (made_of c.args.window c.args.items.now)) c.txn_count.ensures
