use Rattle.std.proofs.Common.{◌≡◌, ◌-◌, length, take}
use Rattle.kept_books.specs.Renewing.{spots_from}
use Rattle.kept_books.proofs.Renewing.{lent_of}
use Rattle.kept_books.proofs.spots.spots_from.Given as goal

abbrev pub invariant-loop-at : goal.invariant-loop-at
invariant-loop-at l = l.spots.items ≡ spots_from l.first (take l.at (lent_of l.forms))

abbrev pub decreases-loop-at : goal.decreases-loop-at
decreases-loop-at l = length l.forms - l.at
