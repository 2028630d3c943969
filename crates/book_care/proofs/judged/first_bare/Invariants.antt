use Rattle.std.proofs.Common.{◌≡◌, drop}
use Rattle.std.specs.List.{find}
use Rattle.book_care.specs.Judged.{is_bare}
use Rattle.book_care.proofs.judged.first_bare.Given as goal

abbrev pub invariant-loop-line : goal.invariant-loop-line
invariant-loop-line l = find is_bare l.lines ≡ find is_bare (drop l.line-index l.lines)
