use Rattle.std.proofs.Common.{◌≡◌, ◌+◌, drop}
use Rattle.directive_reader.specs.Rules.{period_len}
use Rattle.directive_reader.proofs.rule.period_length.Given as goal

abbrev pub invariant-loop-i : goal.invariant-loop-i
invariant-loop-i l = l.i + period_len (drop l.i l.text) ≡ period_len l.text
