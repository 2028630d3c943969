use Rattle.std.proofs.Common.{◌≡◌, ◌++◌, map, take}
use Rattle.rule_entries.specs.Added.{made_posting}
use Rattle.generated.proofs.asking.push_made.Given as goal

abbrev pub invariant-loop-rule : goal.invariant-loop-rule
invariant-loop-rule l = l.postings.items ≡ l.initial.postings.items ++ map (made_posting l.matched) (take l.rule-index l.rules)
