use Rattle.std.proofs.Common.{◌≡◌, take}
use Rattle.book_laws.specs.Writing.{symbols_at, symbols_written}
use Rattle.kept_books.specs.Beginning.{renewed_in}
use Rattle.kept_books.specs.Gathering.{with_all}
use Rattle.kept_books.proofs.gathering.gathered.Given as goal

abbrev pub invariant-loop-at : goal.invariant-loop-at
invariant-loop-at l = with_all l.found.keys (symbols_at (take l.at (renewed_in l.renewal))) ≡ symbols_written (renewed_in l.renewal)

abbrev pub decreases-loop-at : goal.decreases-loop-at
decreases-loop-at l = l.at
