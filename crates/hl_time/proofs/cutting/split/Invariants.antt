use Rattle.std.proofs.Common.{◌≡◌, ℕ, ◌+◌, ◌-◌, ◌*◌, ◌<◌, length}
use Rattle.hl_time.specs.Split.{begins, part_at, interval_at}
use Rattle.hl_time.specs.Units.{unit_of}
use Rattle.hl_time.proofs.cutting.split.Given as goal

abbrev pub invariant-loop-from : goal.invariant-loop-from
invariant-loop-from l =
    let unit = l.interval.unit in
    let n = l.interval.n in
    let first = unit_of unit l.span.from in
    record {
      place : l.index ≡ first + n * length l.parts.items;
      begun : l.from ≡ begins unit l.index;
      bound : l.index < 3800000;
      cut : (at : ℕ) → at < length l.parts.items → part_at l.parts.items at ≡ interval_at l.interval (first + n * at);
      needed : (at : ℕ) → at < length l.parts.items → (part_at l.parts.items at).from < l.span.end;
    }

abbrev pub decreases-loop-from : goal.decreases-loop-from
decreases-loop-from l = l.span.end - l.from
