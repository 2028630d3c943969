use Rattle.std.proofs.Common.{◌≡◌, ◌∙◌, ◌+◌, ◌-◌, ◌/◌, ◌<◌, ◌≤◌, ℕ, Bool, length, true, false, sym, ap, arith}
use Rattle.placed_sums.specs.Days.{is_below}
use Rattle.placed_sums.specs.Placing.{below_count}
use Rattle.placed_sums.specs.declared.on_day.OnDay.{OnDay}
use Rattle.placed_sums.proofs.Orders.{count_within, counted_below, counted_through}
use Rattle.placed_sums.proofs.days.first_from.Goals as goal

pub loop-low-init : goal.loop-low-init
loop-low-init c = record { above = omega arith; beneath = count_within c.args.place.now c.args.places.now; within = omega arith }

pub loop-low-preserved-then-is_below : goal.loop-low-preserved-then-is_below
loop-low-preserved-then-is_below c =
    let m : ℕ = c.loop-low.low + (c.loop-low.high - c.loop-low.low) / 2 in
    let inside : c.loop-low.low + (c.loop-low.high - c.loop-low.low) / 2 < length c.args.places.now = omega (arith, c.loop-low.invariant.within) in
    record {
      above = counted_through c.args.place.now c.args.places.now m _ c.requires inside (sym c.is_below.ensures ∙ c.if-is_below.true);
      beneath = c.loop-low.invariant.beneath;
      within = c.loop-low.invariant.within;
    }

pub loop-low-preserved : goal.loop-low-preserved
loop-low-preserved c =
    let m : ℕ = c.loop-low.low + (c.loop-low.high - c.loop-low.low) / 2 in
    let inside : c.loop-low.low + (c.loop-low.high - c.loop-low.low) / 2 < length c.args.places.now = omega (arith, c.loop-low.invariant.within) in
    record {
      above = c.loop-low.invariant.above;
      beneath = counted_below c.args.place.now c.args.places.now m _ inside (sym c.is_below.ensures ∙ c.if-is_below.false);
      within = omega (arith, inside);
    }

pub returns : goal.returns
returns c = omega (arith, c.loop-low.invariant.above, c.loop-low.invariant.beneath)
