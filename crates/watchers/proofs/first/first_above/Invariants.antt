use Rattle.watchers.specs.Reach.{IsFirst}
use Rattle.watchers.proofs.Above.{over_before}
use Rattle.watchers.proofs.first.first_above.Given as goal

-- the first of the accounts above whose names are shorter
abbrev pub invariant-loop-end : goal.invariant-loop-end
invariant-loop-end l = IsFirst (over_before l.account l.end l.after) l.watches l.first
