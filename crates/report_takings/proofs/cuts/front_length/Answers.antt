use Rattle.std.proofs.Common.{◌<◌, length, arith}
use Rattle.report_takings.proofs.Parts.{front_byte, front_colon}
use Rattle.report_takings.proofs.cuts.front_length.Goals as goal
use Rattle.report_takings.proofs.cuts.front_length.Goals.{then-name-i-eq58+else-left-eq1, else-name-i-eq58}

pub loop-i-preserved : goal.loop-i-preserved
loop-i-preserved c =
    let lt : c.loop-i.i < length c.args.name.now = omega arith in
    elim c.if-name-i-eq58.branch [
      | then-name-i-eq58+else-left-eq1 w ↦ record {
        some = omega (arith, w.left-is, w.if-left-eq1.false, c.loop-i.invariant.some);
        length = front_colon c.args.name.now c.loop-i.i c.loop-i.left _ _ c.loop-i.invariant.length lt c.loop-i.invariant.some w.if-left-eq1.false w.if-name-i-eq58.true w.left-is;
      }
      | else-name-i-eq58 w ↦ record {
        some = omega (arith, w.left-is, c.loop-i.invariant.some);
        length = front_byte c.args.name.now c.loop-i.i c.loop-i.left _ _ c.loop-i.invariant.length lt c.loop-i.invariant.some w.if-name-i-eq58.false w.left-is;
      }
    ]
