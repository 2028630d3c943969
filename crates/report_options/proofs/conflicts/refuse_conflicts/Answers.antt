use Rattle.std.proofs.Common.{sym}
use Rattle.report_options.proofs.Clashing.{clash_found, clash_none}
use Rattle.report_options.proofs.conflicts.refuse_conflicts.Goals as goal

pub returns-in-Some-clause-found : goal.returns-in-Some-clause-found
returns-in-Some-clause-found c =
    rw c.in_ok-conflict.ensures
    (clash_found c.args.items.now c.loop-place.place c.index-items-place.result c.loop-place-test.true c.index-items-place.is c.loop-place.invariant
    c.in-Some.first.now (sym (rw (c.in-Some.is, c.split_at.ensures.front) at c.rival.ensures)))

pub loop-place-preserved : goal.loop-place-preserved
loop-place-preserved c =
    clash_none c.args.items.now c.loop-place.place c.index-items-place.result c.loop-place-test.true c.index-items-place.is c.loop-place.invariant
    (sym (rw (c.in_default.is, c.split_at.ensures.front) at c.rival.ensures))
