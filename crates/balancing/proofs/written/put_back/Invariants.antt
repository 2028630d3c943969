use Rattle.std.proofs.Common.{◌≡◌}
use Rattle.std.specs.Vec.{vec_len}
use Rattle.balancing.specs.Back.{txns_back, causes_back}
use Rattle.balancing.proofs.written.put_back.Given as goal

abbrev pub invariant-loop-written : goal.invariant-loop-written
invariant-loop-written l = record {
  txns : txns_back l.kept.items l.txns.items ≡ txns_back l.fn.kept.items l.fn.txns.items;
  causes : causes_back l.kept.items l.causes.items ≡ causes_back l.fn.kept.items l.fn.causes.items;
}

abbrev pub decreases-loop-written : goal.decreases-loop-written
decreases-loop-written l = vec_len l.kept
