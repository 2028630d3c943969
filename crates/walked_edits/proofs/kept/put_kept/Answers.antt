use Rattle.std.proofs.lemmas.Result.{err_from_is_err_and}
use Rattle.walked_edits.proofs.Keeping.{can_put}
use Rattle.walked_edits.proofs.kept.put_kept.Goals as goal

pub replace-requires : goal.replace-requires
replace-requires c =
    can_put c.args.kept.now c.args.out.now.spot.number c.args.held.now c.args.form.now c.move_with.new.turnover c.requires.held
    c.in_ok-move_with.ensures.turnover c.in_ok-move_with.ensures.fits

pub returns-clause-put : goal.returns-clause-put
returns-clause-put c = record {
  index = c.in_ok-replace.ensures.ok;
  turnover = c.in_ok-move_with.ensures.turnover;
  costs = c.in_ok-move_with.ensures.costs;
  fits = c.in_ok-move_with.ensures.fits;
  days = c.in_ok-put_days.ensures;
}

pub returns-in_err-move_with-clause-load : goal.returns-in_err-move_with-clause-load
returns-in_err-move_with-clause-load c =
    let p = err_from_is_err_and c.from_residual.result c.from_residual.ensures.1 in
    rw (p.1, p.2) c.in_err-move_with.ensures.load

pub returns-in_err-replace-clause-load : goal.returns-in_err-replace-clause-load
returns-in_err-replace-clause-load c =
    let p = err_from_is_err_and c.from_residual-in_err-replace.result c.from_residual-in_err-replace.ensures.1 in
    rw (p.1, p.2) tt

pub returns-in_err-put_days-clause-load : goal.returns-in_err-put_days-clause-load
returns-in_err-put_days-clause-load c =
    let p = err_from_is_err_and c.from_residual-in_err-put_days.result c.from_residual-in_err-put_days.ensures.1 in
    rw (p.1, p.2) tt
