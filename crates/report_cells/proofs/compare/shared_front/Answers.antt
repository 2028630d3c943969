use Rattle.report_cells.proofs.Fronts.{eight_more}
use Rattle.std.proofs.Common.{arith}
use Rattle.report_cells.proofs.compare.shared_front.Goals as goal

pub loop-step-preserved : goal.loop-step-preserved
loop-step-preserved c =
    eight_more c.args.left.now c.args.right.now c.loop-step.step _ (omega arith) (c.is_shared.ensures c.if-not-is_shared.false) c.loop-step.invariant
