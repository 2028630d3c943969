use Rattle.std.proofs.Common.{◌≡◌, filter}
use Rattle.assertions.specs.Assertions.{first_of, is_other}
use Rattle.assertions.specs.Texts.{values_in}
use Rattle.assertions.proofs.totals.Totals.first_other.Given as goal

abbrev pub invariant-loop-other : goal.invariant-loop-other
invariant-loop-other l = first_of (filter (is_other l.symbol) l.self) ≡ first_of (filter (is_other l.symbol) (values_in l.other-iterator))
