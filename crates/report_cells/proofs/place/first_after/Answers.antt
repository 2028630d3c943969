use Rattle.std.proofs.Common.{◌+◌, ◌-◌, ◌<◌, ◌≤◌, ◌/◌, arith}
use Rattle.report_cells.proofs.Counting.{between-low, between-high, between-done}
use Rattle.report_cells.proofs.place.first_after.Goals as goal

pub loop-low-preserved-then-columns-middle : goal.loop-low-preserved-then-columns-middle
loop-low-preserved-then-columns-middle c =
    let below : c.loop-low.low + (c.loop-low.high - c.loop-low.low) / 2 < c.loop-low.high = omega arith in
    let above : c.loop-low.low ≤ c.loop-low.low + (c.loop-low.high - c.loop-low.low) / 2 = omega arith in
    between-low c.args.columns.now c.requires c.args.day c.loop-low.low c.loop-low.high c.loop-low.invariant _ above below c.if-columns-middle.true

pub loop-low-preserved : goal.loop-low-preserved
loop-low-preserved c =
    let below : c.loop-low.low + (c.loop-low.high - c.loop-low.low) / 2 < c.loop-low.high = omega arith in
    let above : c.loop-low.low ≤ c.loop-low.low + (c.loop-low.high - c.loop-low.low) / 2 = omega arith in
    between-high c.args.columns.now c.requires c.args.day c.loop-low.low c.loop-low.high c.loop-low.invariant _ above below c.if-columns-middle.false

pub returns : goal.returns
returns c = between-done c.args.columns.now c.args.day c.loop-low.low c.loop-low.high c.loop-low.invariant c.loop-low-test.false
