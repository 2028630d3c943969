use Rattle.std.proofs.Common.{◌≡◌, map, None}
use Rattle.std.specs.List.{fold}
use Rattle.additions.specs.Words.{judged_more}
use Rattle.additions.proofs.firsts.take_apart.Given as goal

abbrev pub invariant-loop-judged : goal.invariant-loop-judged
invariant-loop-judged l = record {
  txns : l.txns.items ≡ map (λ j. j.txn) l.yielded;
  first : l.first ≡ fold judged_more None l.yielded;
}
