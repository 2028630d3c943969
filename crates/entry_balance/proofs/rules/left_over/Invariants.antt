use Rattle.std.proofs.Common.{◌≡◌, take, not, filter}
use Rattle.entry_balance.specs.Tally.{named}
use Rattle.entry_balance.specs.Entry.{is_nothing_at, precision_of}
use Rattle.entry_balance.proofs.rules.left_over.Given as goal

abbrev pub invariant-loop-sum : goal.invariant-loop-sum
invariant-loop-sum l = named l.left.items ≡ filter (λ sum. not (is_nothing_at (precision_of sum.0 l.postings) sum.1)) (named (take l.sum-index l.sums))
