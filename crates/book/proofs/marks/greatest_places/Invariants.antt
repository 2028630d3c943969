use Rattle.std.proofs.Common.{◌≡◌, max, drop}
use Rattle.book.specs.Standing.{styles_only}
use Rattle.book.specs.Style.{most_places}
use Rattle.book.proofs.marks.greatest_places.Given as goal

-- the most so far and that of the rest make up the most of all
abbrev pub invariant-loop-mark : goal.invariant-loop-mark
invariant-loop-mark l = max l.most (most_places (styles_only (drop l.mark-index l.marks))) ≡ most_places (styles_only l.marks)
