use Rattle.std.proofs.Common.{◌≡◌, ◌^◌, ◌<◌, ◌≤◌}
use Rattle.sample_text.specs.Sample as spec
use Rattle.sample_text.proofs.line.is_used.Given as goal

abbrev pub invariant-loop-at : goal.invariant-loop-at
invariant-loop-at l = record {
  number : l.number ≡ spec.number_at l.count l._at;
  small : l.number < 2 ^ 31;
  used : l.used ≡ spec.is_used l.count l.kind l._at;
  count : l.count ≤ 100000;
}
