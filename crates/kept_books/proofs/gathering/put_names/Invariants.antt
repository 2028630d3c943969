use Rattle.std.proofs.Common.{◌≡◌, length}
use Rattle.kept_books.specs.Gathering.{with_all}
use Rattle.kept_books.proofs.gathering.put_names.Given as goal

abbrev pub invariant-loop-last : goal.invariant-loop-last
invariant-loop-last l = with_all l.found.keys l.rest ≡ with_all l.initial.found.keys l.names

abbrev pub decreases-loop-last : goal.decreases-loop-last
decreases-loop-last l = length l.rest
