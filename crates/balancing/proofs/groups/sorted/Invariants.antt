use Rattle.std.proofs.Common.{◌≡◌, ◌-◌, length, drop}
use Rattle.book.specs.Order.{each_once}
use Rattle.balancing.specs.Groups.{group_cmp}
use Rattle.balancing.proofs.groups.sorted.Given as goal

abbrev pub invariant-loop-back : goal.invariant-loop-back
invariant-loop-back l = l.set.keys ≡ each_once group_cmp (drop (length l.groups - l.back) l.groups)
