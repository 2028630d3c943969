use Rattle.std.proofs.Common.{◌-◌, length, take}
use Rattle.kept_books.specs.Renewing.{RenewsWatches}
use Rattle.kept_books.proofs.Renewing.{lent_of}
use Rattle.kept_books.proofs.watching.watches_renewed.Given as goal

abbrev pub invariant-loop-at : goal.invariant-loop-at
invariant-loop-at l = RenewsWatches l.first (lent_of l.former) (take l.at (lent_of l.forms)) l.watchers l.more

abbrev pub decreases-loop-at : goal.decreases-loop-at
decreases-loop-at l = length l.forms - l.at
