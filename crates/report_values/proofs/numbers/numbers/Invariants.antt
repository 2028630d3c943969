use Rattle.std.proofs.Common.{◌≡◌}
use Rattle.report_values.specs.Numbers.{numbers}
use Rattle.report_values.proofs.numbers.numbers.Given as goal

abbrev pub invariant-loop-number : goal.invariant-loop-number
invariant-loop-number l = l.columns.items ≡ numbers l.number
