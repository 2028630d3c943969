use Rattle.std.proofs.Common.{◌≡◌, ◌-◌, ◌*◌, ◌^◌, ◌<◌, ◌≤◌, unsigned_abs}
use Rattle.hl_num.proofs.decimal.Dec.without_zeros.Given as goal

abbrev pub invariant-loop-places : goal.invariant-loop-places
invariant-loop-places l = record {
  exact : l.magnitude * 10 ^ (36 - l.places) ≡ unsigned_abs l.fn.self.mantissa * 10 ^ (36 - l.fn.self.places);
  small : l.magnitude < 2 ^ 127;
  fewer : l.places ≤ l.fn.self.places;
}

abbrev pub decreases-loop-places : goal.decreases-loop-places
decreases-loop-places l = l.places
