use Rattle.std.proofs.Common.{◌≡◌, length}
use Rattle.std.specs.List.{flat_map}
use Rattle.book_laws.specs.Writing.{symbols_in}
use Rattle.kept_books.specs.Gathering.{with_all}
use Rattle.kept_books.proofs.gathering.put_postings.Given as goal

abbrev pub invariant-loop-last : goal.invariant-loop-last
invariant-loop-last l = with_all l.found.keys (flat_map symbols_in l.rest) ≡ with_all l.initial.found.keys (flat_map symbols_in l.postings)

abbrev pub decreases-loop-last : goal.decreases-loop-last
decreases-loop-last l = length l.rest
