use Rattle.std.proofs.Common.{◌≡◌, List, [], ◌∷◌, refl, subst}
use Rattle.std.proofs.lemmas.Bool.{eq-eqb}
use Rattle.std.proofs.lemmas.Result.{err_from_is_err_and}
use Rattle.reached_walk.specs.declared.place.Spot.{Spot}
use Rattle.reached_walk.specs.Closed.{edit_of, Edit, ReachesDated}
use Rattle.reached_walk.specs.Walks.{IsBegun, WasDated}
use Rattle.reached_walk.proofs.Handing.{begun-walks}
use Rattle.reached_walk.proofs.Looking.{text-watched}
use Rattle.reached_walk.proofs.Running.{cause-map, dated-old, edit-is}
use Rattle.reached_walk.proofs.run.begun.Goals as goal

pub returns-clause-begun : goal.returns-clause-begun
returns-clause-begun c =
    let spot : Spot = record { day = c.txn_at-new.result.now.day; number = c.args.number } in
    let edit : Edit = edit_of c.args.number c.args.before.now c.args.after.now in
    begun-walks edit (spot ∷ []) c.tell_old.new.walk
    (edit-is c.args.number c.args.before.now c.args.after.now spot c.txn_at-new.result.now c.requires.inside c.requires.others c.txn_at-new.ensures refl refl)
    (c.in_ok-tell_old.ensures.told edit (spot ∷ []) [] refl (text-watched c.args.after.now c.args.watchers.now c.requires.watched) c.requires.others (eq-eqb c.args.number c.args.number refl)
    (subst (λ (ts : List Spot). IsBegun edit ts [] c.in_ok-walk.walk) c.from_ref.ensures.value (c.in_ok-walk.ensures edit)))

pub returns-in_err-walk-clause-dated : goal.returns-in_err-walk-clause-dated
returns-in_err-walk-clause-dated c =
    let p = err_from_is_err_and c.from_residual.result c.from_residual.ensures.1 in
    rw (p.1, p.2) tt

pub returns-in_err-tell_old-clause-dated : goal.returns-in_err-tell_old-clause-dated
returns-in_err-tell_old-clause-dated c =
    let p = err_from_is_err_and c.from_residual-in_err-tell_old.result c.from_residual-in_err-tell_old.ensures.1 in
    rw (p.1, p.2)
    (cause-map (WasDated c.args.number c.args.before.now) (ReachesDated (edit_of c.args.number c.args.before.now c.args.after.now))
    (dated-old (edit_of c.args.number c.args.before.now c.args.after.now) c.args.number (eq-eqb c.args.number c.args.number refl))
    c.in_err-tell_old.field-0.0 c.in_err-tell_old.ensures.dated)
