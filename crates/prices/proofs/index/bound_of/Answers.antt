use Rattle.std.proofs.Common.{◌≡◌, ℕ, ◌+◌, ◌-◌, ◌<◌, length, ◌/◌, true, false, sym, ap, ◌∙◌, arith}
use Rattle.std.specs.Ordering.{is_lt}
use Rattle.prices.specs.Index.{key_cmp}
use Rattle.prices.proofs.Latest.{all_past, all_upto}
use Rattle.prices.proofs.index.bound_of.Goals as goal

pub loop-low-preserved-then-is_lt : goal.loop-low-preserved-then-is_lt
loop-low-preserved-then-is_lt c =
    let m : ℕ = c.loop-low.low + (c.loop-low.high - c.loop-low.low) / 2 in
    let within : c.loop-low.low + (c.loop-low.high - c.loop-low.low) / 2 < length c.args.sorted.now = let w = c.loop-low.invariant.within in omega arith in
    let is : is_lt (key_cmp c.args.symbol.now c.args.target.now c.args.day.0 c.index-sorted-middle.result) ≡ true =
    ap is_lt (sym c.compare_key.ensures) ∙ sym c.is_lt.ensures ∙ c.if-is_lt.true in
    record {
      ordered = omega arith;
      within = omega (arith, within);
      before = c.loop-low.invariant.before;
      after = all_past c.args.symbol.now c.args.target.now c.args.day.0 c.args.sorted.now c.requires m c.index-sorted-middle.result c.index-sorted-middle.is within is;
    }

pub loop-low-preserved : goal.loop-low-preserved
loop-low-preserved c =
    let m : ℕ = c.loop-low.low + (c.loop-low.high - c.loop-low.low) / 2 in
    let within : c.loop-low.low + (c.loop-low.high - c.loop-low.low) / 2 < length c.args.sorted.now = let w = c.loop-low.invariant.within in omega arith in
    let is : is_lt (key_cmp c.args.symbol.now c.args.target.now c.args.day.0 c.index-sorted-middle.result) ≡ false =
    ap is_lt (sym c.compare_key.ensures) ∙ sym c.is_lt.ensures ∙ c.if-is_lt.false in
    record {
      ordered = omega arith;
      within = c.loop-low.invariant.within;
      before = λ j d lt. all_upto c.args.symbol.now c.args.target.now c.args.day.0 c.args.sorted.now c.requires m c.index-sorted-middle.result c.index-sorted-middle.is within is j d (omega arith);
      after = c.loop-low.invariant.after;
    }
