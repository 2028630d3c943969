use Rattle.std.proofs.Common.{◌≡◌, ◌≤◌}
use Rattle.sample_text.specs.Sample as spec
use Rattle.sample_text.proofs.line.kinds_used.Given as goal

abbrev pub invariant-loop-kind : goal.invariant-loop-kind
invariant-loop-kind l = record {
  kinds : l.kinds ≡ spec.kinds_used l.count l.kind;
  few : l.kinds ≤ l.kind;
  count : l.count ≤ 100000;
}
