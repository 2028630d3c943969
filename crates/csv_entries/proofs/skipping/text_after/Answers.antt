use Rattle.std.proofs.Common.{◌<◌, length, arith}
use Rattle.csv_entries.specs.Records.{text_after}
use Rattle.csv_entries.proofs.CutOff.{passed_one, none_left}
use Rattle.csv_entries.proofs.skipping.text_after.Goals as goal

pub loop-left-preserved : goal.loop-left-preserved
loop-left-preserved c =
    let some : 0 < length c.loop-left.rest.now = omega (arith, c.line_at-next.ensures.bounds.0, c.line_at-next.ensures.bounds.1) in
    rw c.split_at.ensures.back
    (passed_one (text_after c.args.count c.args.text.now) c.loop-left.left c.left_behind-left.result c.line_at-next.result.1 c.loop-left.rest.now c.line_at-next.result.0.now
    c.loop-left.invariant c.loop-left-test.true some c.line_at-next.ensures.line c.line_at-next.ensures.next c.left_behind-left.ensures)

pub returns : goal.returns
returns c = none_left (text_after c.args.count c.args.text.now) c.loop-left.left c.loop-left.rest.now c.loop-left.invariant c.loop-left-test.false
