use Rattle.std.proofs.Common.{◌≡◌, ◌*◌, ◌^◌, ◌<◌, ◌≤◌}
use Rattle.sample_text.specs.Sample.{number_at, spent_by}
use Rattle.sample_text.proofs.line.spent_in.Given as goal

abbrev pub invariant-loop-at : goal.invariant-loop-at
invariant-loop-at l = record {
  number : l.number ≡ number_at l.count l._at;
  small : l.number < 2 ^ 31;
  spent : l.spent ≡ spent_by l.count l._at;
  few : l.spent ≤ 100000 * l._at;
  count : l.count ≤ 100000;
}
