use Rattle.std.proofs.Common.{List, sym, ap, subst, ◌∙◌}
use Rattle.std.specs.Option.{option_copied}
use Rattle.std.proofs.lemmas.Option.{same_Some}
use Rattle.std.proofs.lemmas.Result.{err_from_is_err_and}
use Rattle.book.specs.declared.transaction.Txn.{Txn}
use Rattle.reached_walk.specs.Walks.{IsHanded}
use Rattle.watchers.specs.declared.watch.Watch.{Watch}
use Rattle.walked_edits.proofs.Noted.{dated_at, nothing_there}
use Rattle.walked_edits.proofs.walking.note.Goals as goal

pub returns-in_ok-reach-in-Some-clause-handed : goal.returns-in_ok-reach-in-Some-clause-handed
returns-in_ok-reach-in-Some-clause-handed g c = λ written got.
    let same = same_Some c.in-Some.written.now written (sym (sym c.written_form.ensures ∙ ap option_copied c.in-Some.is) ∙ got) in
    subst (λ (ws : List Watch). IsHanded ws c.args.spot written c.args.reach.now c.reach.new.self) c.watchers.ensures
    (subst (λ (t : Txn). IsHanded c.watchers.result.now c.args.spot t c.args.reach.now c.reach.new.self) same c.in_ok-reach-in-Some.ensures.handed)

pub returns-in_err-reach-in-Some-clause-load : goal.returns-in_err-reach-in-Some-clause-load
returns-in_err-reach-in-Some-clause-load g c =
    let p = err_from_is_err_and c.from_residual.result c.from_residual.ensures.1 in
    rw (p.1, p.2)
    (dated_at c.args.edit.now c.args.spot c.in-Some.written.now c.in_err-reach-in-Some.field-0.0 (sym c.written_form.ensures ∙ ap option_copied c.in-Some.is) c.in_err-reach-in-Some.ensures.dated)

pub returns-in-None-clause-load : goal.returns-in-None-clause-load
returns-in-None-clause-load g c = nothing_there c.args.edit.now c.args.spot (sym c.written_form.ensures ∙ ap option_copied c.in-None.is)
