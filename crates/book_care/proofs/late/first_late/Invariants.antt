use Rattle.std.proofs.Common.{◌≡◌, ◌≤◌, None, length, drop}
use Rattle.book.specs.SumsBefore.{placed_from}
use Rattle.book_care.specs.Late.{gathered}
use Rattle.book_care.proofs.late.first_late.Given as goal

abbrev pub invariant-loop-number : goal.invariant-loop-number
invariant-loop-number l = record {
  within : l.number ≤ length l.txns;
  least : l.least ≡ gathered l.on.0 (placed_from l.number (drop l.number l.txns)) None;
}

abbrev pub decreases-loop-number : goal.decreases-loop-number
decreases-loop-number l = l.number
