use Rattle.std.proofs.lemmas.Result.{err_from_is_err_and}
use Rattle.walked_edits.proofs.Beginning.{begins_all, tells_none}
use Rattle.walked_edits.proofs.edit_walk.begun.Goals as goal

pub tell_all-requires-clause-spots : goal.tell_all-requires-clause-spots
tell_all-requires-clause-spots g c = c.spots-2.ensures

pub tell_all-requires-clause-none : goal.tell_all-requires-clause-none
tell_all-requires-clause-none g c = tells_none c.args.edit.now c.spots.result.now c.in_ok-reach.reach c.spots.ensures c.in_ok-reach.ensures

pub returns-clause-begins : goal.returns-clause-begins
returns-clause-begins g c = begins_all c.args.edit.now c.tell_all.new.reach c.in_ok-tell_all.ensures.told

pub returns-in_err-reach-clause-load : goal.returns-in_err-reach-clause-load
returns-in_err-reach-clause-load g c =
    let p = err_from_is_err_and c.from_residual.result c.from_residual.ensures.1 in
    rw (p.1, p.2) tt

pub returns-in_err-tell_all-clause-load : goal.returns-in_err-tell_all-clause-load
returns-in_err-tell_all-clause-load g c =
    let p = err_from_is_err_and c.from_residual-in_err-tell_all.result c.from_residual-in_err-tell_all.ensures.1 in
    rw (p.1, p.2) c.in_err-tell_all.ensures.load
