use Rattle.std.proofs.Common.{◌≡◌, ◌*◌, ◌^◌, ◌<◌, ◌≤◌}
use Rattle.sample_text.specs.Sample.{entries, number_at, spent_by}
use Rattle.sample_text.proofs.sample.sample_text.Given as goal

abbrev pub invariant-loop-at : goal.invariant-loop-at
invariant-loop-at l = record {
  text : l.out.items ≡ entries l.count l.at;
  number : l.number ≡ number_at l.count l.at;
  small : l.number < 2 ^ 31;
  spent : l.spent ≡ spent_by l.count l.at;
  few : l.spent ≤ 100000 * l.at;
  count : l.count ≤ 100000;
}
