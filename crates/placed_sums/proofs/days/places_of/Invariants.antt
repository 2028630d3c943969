use Rattle.std.proofs.Common.{◌≡◌, ◌++◌, drop}
use Rattle.placed_sums.specs.Placing.{text_places}
use Rattle.placed_sums.proofs.days.places_of.Given as goal

-- what was put and what is left are all
abbrev pub invariant-loop-number : goal.invariant-loop-number
invariant-loop-number l = l.places.items ++ text_places l.number (drop l.number l.book) ≡ text_places 0 l.book
