use Rattle.std.proofs.Common.{◌≡◌, map, take}
use Rattle.book_care.specs.Lines.{opposite}
use Rattle.book_care.proofs.entries.opposites.Given as goal

abbrev pub invariant-loop-line : goal.invariant-loop-line
invariant-loop-line l = l.opposites.items ≡ map opposite (take l.line-index l.lines)
