use Rattle.std.proofs.Common.{arith}
use Rattle.hl_base.proofs.LineLemmas.{all_counted, line_more}
use Rattle.hl_base.proofs.line.count_lines.Goals as goal

pub loop-at-preserved : goal.loop-at-preserved
loop-at-preserved c =
    let bounds = c.line_at-next.ensures.bounds in
    record {
      within = bounds.1;
      few = omega (arith, c.loop-at.invariant.few, bounds.0);
      left = line_more c.args.text.now c.loop-at.at c.line_at-next.result.1 c.loop-at.lines _ c.loop-at-test.true c.line_at-next.ensures.next c.loop-at.invariant.left;
    }

pub returns-clause-count : goal.returns-clause-count
returns-clause-count c = all_counted c.args.text.now c.loop-at.at c.loop-at.lines _ c.loop-at-test.false c.loop-at.invariant.left
