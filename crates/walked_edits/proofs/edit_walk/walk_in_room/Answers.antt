use Rattle.std.proofs.Common.{◌∙◌}
use Rattle.std.proofs.lemmas.Result.{err_from_is_err_and}
use Rattle.walked_edits.proofs.Going.{none_checked}
use Rattle.walked_edits.proofs.Rooming.{ready_copy, ready_whole}
use Rattle.walked_edits.proofs.edit_walk.walk_in_room.Goals as goal

pub walk_left-outcome-requires-clause-ready : goal.walk_left-outcome-requires-clause-ready
walk_left-outcome-requires-clause-ready g c =
    ready_copy c.args.edit.now c.args.book.now.items c.args.kept.now c.in_ok-copy.copy c.args.reach c.requires
    (c.in_ok-copy.ensures c.args.book.now.items (ready_whole c.args.edit.now c.args.book.now.items c.args.kept.now c.args.reach c.requires))

pub walk_left-outcome-requires-clause-none : goal.walk_left-outcome-requires-clause-none
walk_left-outcome-requires-clause-none g c = c.new-olds.ensures.items

pub swap_back-requires : goal.swap_back-requires
swap_back-requires g c = c.walk_left-outcome.ensures.inside

pub returns-clause-walked : goal.returns-clause-walked
returns-clause-walked g c = c.walk_left-outcome.ensures.walked

pub returns-clause-stays : goal.returns-clause-stays
returns-clause-stays g c = c.swap_back.ensures.back ∙ c.walk_left-outcome.ensures.back

pub returns-clause-load : goal.returns-clause-load
returns-clause-load g c = c.walk_left-outcome.ensures.load

pub returns-in_err-copy-clause-load : goal.returns-in_err-copy-clause-load
returns-in_err-copy-clause-load g c =
    let p = err_from_is_err_and c.from_residual.result c.from_residual.ensures.1 in
    rw (p.1, p.2) tt

pub returns-clause-most : goal.returns-clause-most
returns-clause-most g c = c.walk_left-outcome.ensures.most

pub returns-in_err-copy-clause-most : goal.returns-in_err-copy-clause-most
returns-in_err-copy-clause-most g c = none_checked c.args.edit.now c.args.steps.now
