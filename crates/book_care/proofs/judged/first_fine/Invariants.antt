use Rattle.std.proofs.Common.{◌≡◌, drop}
use Rattle.std.specs.List.{find}
use Rattle.book_care.specs.Judged.{is_fine}
use Rattle.book_care.proofs.judged.first_fine.Given as goal

abbrev pub invariant-loop-line : goal.invariant-loop-line
invariant-loop-line l = find is_fine l.lines ≡ find is_fine (drop l.line-index l.lines)
