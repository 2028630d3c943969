use Rattle.std.proofs.Common.{arith}
use Rattle.live_index.proofs.SmallRows.{all-pushed}
use Rattle.live_index.proofs.tests.some_rows.Goals as goal

pub loop-next-preserved : goal.loop-next-preserved
loop-next-preserved c = record {
  few = omega (arith, c.in_ok-push.ensures.len, c.loop-next.invariant.few);
  small = all-pushed _ c.loop-next.rows.items c.in_ok-row.row c.in_ok-push.ensures.items c.loop-next.invariant.small c.in_ok-row.ensures;
}
