use Rattle.std.proofs.Common.{◌≡◌, ◌+◌, ◌≤◌, drop}
use Rattle.report_takings.specs.Fronts.{front_length}
use Rattle.report_takings.proofs.cuts.front_length.Given as goal

abbrev pub invariant-loop-i : goal.invariant-loop-i
invariant-loop-i l = record {
  some : 1 ≤ l.left;
  length : front_length l.depth l.name ≡ l.i + front_length l.left (drop l.i l.name);
}
