use Rattle.std.proofs.Common.{sym, ap, ◌∙◌}
use Rattle.std.specs.Option.{option_copied}
use Rattle.std.proofs.lemmas.Result.{err_from_is_err_and}
use Rattle.walked_edits.proofs.Beginning.{tells_left, tells_new}
use Rattle.walked_edits.proofs.Noted.{dated_before}
use Rattle.walked_edits.proofs.edit_walk.tell_one.Goals as goal

pub returns-in_ok-leave-in-Some-clause-told : goal.returns-in_ok-leave-in-Some-clause-told
returns-in_ok-leave-in-Some-clause-told g c =
    tells_left c.args.edit.now c.watchers.result.now c.args.spot.now c.in-Some.old.now c.args.reach.now c.leave.new.self c.watchers.ensures c.requires
    (sym c.former_form.ensures ∙ ap option_copied c.in-Some.is) c.in_ok-leave-in-Some.ensures.told

pub returns-in_err-leave-in-Some-clause-load : goal.returns-in_err-leave-in-Some-clause-load
returns-in_err-leave-in-Some-clause-load g c =
    let p = err_from_is_err_and c.from_residual.result c.from_residual.ensures.1 in
    rw (p.1, p.2)
    (dated_before c.args.edit.now c.args.spot.now c.in-Some.old.now c.in_err-leave-in-Some.field-0.0 c.requires
    (sym c.former_form.ensures ∙ ap option_copied c.in-Some.is) c.in_err-leave-in-Some.ensures.dated)

pub returns-in-None-clause-told : goal.returns-in-None-clause-told
returns-in-None-clause-told g c = tells_new c.args.edit.now c.args.spot.now c.args.reach.now (sym c.former_form.ensures ∙ ap option_copied c.in-None.is)
