use Rattle.std.proofs.Common.{length, take, ap, ◌∙◌}
use Rattle.std.proofs.lemmas.Result.{err_from_is_err_and}
use Rattle.walked_edits.proofs.Going.{none_checked, walked_before}
use Rattle.walked_edits.proofs.Rooming.{is_ready}
use Rattle.walked_edits.proofs.edit_walk.walk_with_room.Goals as goal

pub walk_in_room-requires : goal.walk_in_room-requires
walk_in_room-requires g c =
    is_ready c.args.edit.now c.args.book.now.items c.make_room.new.book.items c.args.kept.now c.args.reach c.requires.edited c.requires.kept c.requires.symbols c.requires.begins c.in_ok-make_room.ensures.ok

pub returns-clause-walked : goal.returns-clause-walked
returns-clause-walked g c = walked_before c.args.edit.now c.args.book.now.items c.make_room.new.book.items c.walk_in_room.result c.in_ok-make_room.ensures.ok c.walk_in_room.ensures.walked

pub returns-clause-back : goal.returns-clause-back
returns-clause-back g c = ap (take (length c.args.book.now.items)) c.walk_in_room.ensures.stays ∙ c.make_room.ensures.back

pub returns-clause-load : goal.returns-clause-load
returns-clause-load g c = c.walk_in_room.ensures.load

pub returns-in_err-make_room-clause-back : goal.returns-in_err-make_room-clause-back
returns-in_err-make_room-clause-back g c = c.make_room.ensures.back

pub returns-in_err-make_room-clause-load : goal.returns-in_err-make_room-clause-load
returns-in_err-make_room-clause-load g c =
    let p = err_from_is_err_and c.from_residual.result c.from_residual.ensures.1 in
    rw (p.1, p.2) tt

pub returns-clause-most : goal.returns-clause-most
returns-clause-most g c = c.walk_in_room.ensures.most

pub returns-in_err-make_room-clause-most : goal.returns-in_err-make_room-clause-most
returns-in_err-make_room-clause-most g c = none_checked c.args.edit.now c.args.steps.now
