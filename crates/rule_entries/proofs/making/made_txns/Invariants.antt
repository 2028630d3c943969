use Rattle.std.proofs.Common.{◌≡◌, take}
use Rattle.rule_entries.specs.Making.{made_of}
use Rattle.rule_entries.proofs.making.made_txns.Given as goal

abbrev pub invariant-loop-placed : goal.invariant-loop-placed
invariant-loop-placed l = l.txns.items ≡ made_of l.window (take l.placed-index l.placed-items)
