use Rattle.std.proofs.Common.{◌≡◌, ◌-◌, drop}
use Rattle.book_care.specs.Breaks.{first_early}
use Rattle.book_care.proofs.strict_checks.dates_ordered.Given as goal

abbrev pub invariant-loop-at : goal.invariant-loop-at
invariant-loop-at l = first_early l.txns ≡ first_early (drop (l.at - 1) l.txns)
