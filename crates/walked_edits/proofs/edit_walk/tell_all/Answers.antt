use Rattle.std.proofs.lemmas.Result.{err_from_is_err_and}
use Rattle.walked_edits.proofs.Beginning.{own_in, tells_all, tells_more}
use Rattle.walked_edits.proofs.edit_walk.tell_all.Goals as goal

pub loop-spot-init : goal.loop-spot-init
loop-spot-init g c = c.requires.none

pub tell_one-requires : goal.tell_one-requires
tell_one-requires g c =
    own_in c.args.edit.now.spots c.args.spots.now c.loop-spot.spot-index _ c.requires.spots c.loop-spot-test.true

pub loop-spot-preserved : goal.loop-spot-preserved
loop-spot-preserved g c =
    tells_more c.args.edit.now c.args.spots.now c.loop-spot.spot-index _ c.loop-spot.reach c.tell_one.new.reach c.loop-spot-test.true c.in_ok-tell_one.ensures.told c.loop-spot.invariant

pub returns-clause-told : goal.returns-clause-told
returns-clause-told g c = tells_all c.args.edit.now c.args.spots.now c.loop-spot.spot-index c.loop-spot.reach c.requires.spots c.loop-spot-test.false c.loop-spot.invariant

pub returns-in_err-tell_one-clause-load : goal.returns-in_err-tell_one-clause-load
returns-in_err-tell_one-clause-load g c =
    let p = err_from_is_err_and c.from_residual.result c.from_residual.ensures.1 in
    rw (p.1, p.2) c.in_err-tell_one.ensures.load
