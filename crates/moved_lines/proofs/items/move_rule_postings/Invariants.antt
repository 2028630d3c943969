use Rattle.std.proofs.Common.{◌≡◌, ◌++◌, map, take, drop}
use Rattle.moved_lines.specs.Moving.{moved_rule_posting}
use Rattle.moved_lines.proofs.items.move_rule_postings.Given as goal

abbrev pub invariant-loop-posting : goal.invariant-loop-posting
invariant-loop-posting l = l.postings ≡ map (moved_rule_posting l.by) (take l.posting-index l.fn.postings) ++ drop l.posting-index l.fn.postings
