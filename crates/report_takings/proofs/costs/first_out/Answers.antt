use Rattle.std.proofs.Common.{◌≡◌, ◌+◌, ◌-◌, arith}
use Rattle.report_takings.proofs.Outs.{out_before}
use Rattle.report_takings.proofs.costs.first_out.Goals as goal

pub loop-at-preserved : goal.loop-at-preserved
loop-at-preserved c =
    let next : c.loop-at.at - 1 + 1 ≡ c.loop-at.at = omega arith in
    record {
      within = omega (arith, c.loop-at.invariant.within);
      least = out_before c.args.entries.now c.loop-at.at (c.loop-at.at - 1) c.index-entries-at.result _ _ next c.loop-at.invariant.within c.index-entries-at.is c.loop-at.invariant.least c.with_entry-least.ensures;
    }
