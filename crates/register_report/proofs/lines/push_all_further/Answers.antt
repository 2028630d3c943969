use Rattle.std.proofs.Common.{arith}
use Rattle.book.specs.Styles.{style_in}
use Rattle.register_report.specs.Summed.{kept_line}
use Rattle.register_report.proofs.Stepping.{lines_more}
use Rattle.register_report.proofs.lines.push_all_further.Goals as goal

pub loop-sum-preserved : goal.loop-sum-preserved
loop-sum-preserved c =
    lines_more (kept_line (style_in c.args.styles.now)) c.args.sums.now c.loop-sum.sum-index c.sum-item.result _ c.loop-sum.out.items c.push_further.new.out.items
    (omega arith) c.sum-item.is c.loop-sum.invariant c.in_ok-push_further.ensures
