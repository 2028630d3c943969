use Rattle.std.proofs.Common.{filter}
use Rattle.live_index.specs.Rows.{total}
use Rattle.live_index.specs.Standing.{standing}
use Rattle.live_index.specs.Told.{IsSum}
use Rattle.live_index.proofs.KeptLaws.{parts}
use Rattle.live_index.proofs.index.Index.sum.Given as goal

-- the sum of the rows with fewer decimals
abbrev pub invariant-loop-places : goal.invariant-loop-places
invariant-loop-places l = IsSum (standing l.self) l.symbol (total (filter (parts l.account l.symbol l.below l.level l.at l.places) (standing l.self))) l.sum
