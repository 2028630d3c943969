use Rattle.std.proofs.Common.{◌≡◌, not, drop}
use Rattle.std.specs.List.{find}
use Rattle.book_care.specs.Reads.{reads_back}
use Rattle.book_care.proofs.judged.first_renamed.Given as goal

abbrev pub invariant-loop-line : goal.invariant-loop-line
invariant-loop-line l =
    find (λ moved. not (reads_back l.context moved.account)) l.lines ≡ find (λ moved. not (reads_back l.context moved.account)) (drop l.line-index l.lines)
