use Rattle.std.proofs.Common.{◌++◌, ◌-◌, length, take}
use Rattle.shared_days.specs.Days.{AreOf}
use Rattle.kept_books.proofs.behind.days_behind.Given as goal

abbrev pub invariant-loop-at : goal.invariant-loop-at
invariant-loop-at l = AreOf (l.book ++ take l.at l.txns) l.all

abbrev pub decreases-loop-at : goal.decreases-loop-at
decreases-loop-at l = length l.txns - l.at
