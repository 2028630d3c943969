use Rattle.std.proofs.Common.{ℕ, ◌+◌, ◌-◌, ◌/◌, ◌<◌, ◌≤◌, pos, length, get_or, arith}
use Rattle.live_index.proofs.RunLaws.{place-after, place-upto, place-within}
use Rattle.live_index.proofs.runs.place_of.Goals as goal

pub loop-low-init : goal.loop-low-init
loop-low-init c = record { above = omega arith; below = place-within c.args.runs.now c.args.end; within = omega arith }

pub loop-low-preserved-then-from-end : goal.loop-low-preserved-then-from-end
loop-low-preserved-then-from-end c =
    let m : ℕ = c.loop-low.low + (c.loop-low.high - c.loop-low.low) / 2 in
    let inside : c.loop-low.low + (c.loop-low.high - c.loop-low.low) / 2 < length c.args.runs.now = omega arith in
    let day-before : (get_or c.args.runs.now (c.loop-low.low + (c.loop-low.high - c.loop-low.low) / 2) (record { day = record { 0 = 0 }; sum = pos 0 })).day.0 < c.args.end = omega (arith, c.from.ensures) in
    record {
      above = place-after c.args.runs.now 0 c.args.end m (record { day = record { 0 = 0 }; sum = pos 0 }) c.requires inside day-before;
      below = c.loop-low.invariant.below;
      within = c.loop-low.invariant.within;
    }

pub loop-low-preserved : goal.loop-low-preserved
loop-low-preserved c =
    let m : ℕ = c.loop-low.low + (c.loop-low.high - c.loop-low.low) / 2 in
    let inside : c.loop-low.low + (c.loop-low.high - c.loop-low.low) / 2 < length c.args.runs.now = omega arith in
    let day-from : c.args.end ≤ (get_or c.args.runs.now (c.loop-low.low + (c.loop-low.high - c.loop-low.low) / 2) (record { day = record { 0 = 0 }; sum = pos 0 })).day.0 = omega (arith, c.from.ensures) in
    record {
      above = c.loop-low.invariant.above;
      below = place-upto c.args.runs.now c.args.end m (record { day = record { 0 = 0 }; sum = pos 0 }) inside day-from;
      within = omega arith;
    }
