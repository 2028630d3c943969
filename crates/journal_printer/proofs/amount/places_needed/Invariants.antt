use Rattle.std.proofs.Common.{◌≡◌, ◌≤◌, unsigned_abs}
use Rattle.journal_printer.specs.Amounts.{places_needed}
use Rattle.journal_printer.proofs.amount.places_needed.Given as goal

abbrev pub invariant-loop-places : goal.invariant-loop-places
invariant-loop-places l =
    (places_needed l.magnitude l.places ≡ places_needed (unsigned_abs l.fn.value.mantissa) l.fn.value.places) × (l.places ≤ 36)

abbrev pub decreases-loop-places : goal.decreases-loop-places
decreases-loop-places l = l.places
