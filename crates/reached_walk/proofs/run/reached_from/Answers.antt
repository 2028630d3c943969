use Rattle.std.proofs.Common.{◌≡◌, ◌<◌, [], ◌∷◌, ◌++◌, List, length, filter, not, true, Some, None, refl, sym, ap, subst, ◌∙◌}
use Rattle.std.specs.List.{range_with_len}
use Rattle.std.proofs.lemmas.Result.{err_from_is_err_and}
use Rattle.reached_walk.specs.declared.place.Spot.{Spot}
use Rattle.reached_walk.specs.Closed.{edit_of, AreReached, ReachesDated}
use Rattle.reached_walk.specs.Apart.{is_dated}
use Rattle.reached_walk.specs.Spots.{holds}
use Rattle.reached_walk.specs.Walks.{Walks}
use Rattle.reached_walk.proofs.Looking.{text-watched}
use Rattle.reached_walk.proofs.Running.{cause-map, dated-new, left-less, stands-inside}
use Rattle.reached_walk.proofs.run.reached_from.Goals as goal

pub loop-spot-init : goal.loop-spot-init
loop-spot-init c =
    subst (λ (spots : List Spot). Walks (edit_of c.args.number c.args.before.now c.args.after.now) spots spots c.in_ok-walk.walk) (sym c.new-spots.ensures.items) c.in_ok-walk.ensures.begun

pub txn_at-txn-requires : goal.txn_at-txn-requires
txn_at-txn-requires c =
    let edit = edit_of c.args.number c.args.before.now c.args.after.now in
    stands-inside edit c.loop-spot.spots.items c.loop-spot.spots.items c.in-Some.spot c.next.new.self
    (c.in-Some.ensures edit c.loop-spot.spots.items (text-watched c.args.after.now c.args.watchers.now c.requires.watched) c.loop-spot.invariant)

pub loop-spot-preserved : goal.loop-spot-preserved
loop-spot-preserved c =
    let edit = edit_of c.args.number c.args.before.now c.args.after.now in
    let watched = text-watched c.args.after.now c.args.watchers.now c.requires.watched in
    let went = c.in-Some.ensures edit c.loop-spot.spots.items watched c.loop-spot.invariant in
    subst (λ (spots : List Spot). Walks (edit_of c.args.number c.args.before.now c.args.after.now) spots spots c.reach.new.self) (sym c.in_ok-push.ensures.items)
    (c.in_ok-reach.ensures.handed edit c.loop-spot.spots.items watched c.txn_at-txn.ensures went)

pub loop-spot-smaller : goal.loop-spot-smaller
loop-spot-smaller c =
    let edit = edit_of c.args.number c.args.before.now c.args.after.now in
    let went = c.in-Some.ensures edit c.loop-spot.spots.items (text-watched c.args.after.now c.args.watchers.now c.requires.watched) c.loop-spot.invariant in
    subst (λ (spots : List Spot). length (filter (λ n. not (holds spots n)) (range_with_len 0 (length c.args.after.now))) < length (filter (λ n. not (holds c.loop-spot.spots.items n)) (range_with_len 0 (length c.args.after.now))))
    (sym c.in_ok-push.ensures.items)
    (left-less edit c.loop-spot.spots.items c.loop-spot.spots.items c.in-Some.spot c.next.new.self went)

pub returns-clause-reached : goal.returns-clause-reached
returns-clause-reached c =
    let edit = edit_of c.args.number c.args.before.now c.args.after.now in
    subst (λ (spots : List Spot). AreReached (edit_of c.args.number c.args.before.now c.args.after.now) spots) (sym c.from_vec.ensures)
    (c.in_default.ensures edit c.loop-spot.spots.items (text-watched c.args.after.now c.args.watchers.now c.requires.watched) c.loop-spot.invariant)

pub returns-in_err-walk-clause-dated : goal.returns-in_err-walk-clause-dated
returns-in_err-walk-clause-dated c =
    let p = err_from_is_err_and c.from_residual.result c.from_residual.ensures.1 in
    rw (p.1, p.2) c.in_err-walk.ensures.dated

pub returns-in_err-push-clause-dated : goal.returns-in_err-push-clause-dated
returns-in_err-push-clause-dated c =
    let p = err_from_is_err_and c.from_residual-in_err-push.result c.from_residual-in_err-push.ensures.1 in
    rw (p.1, p.2) tt

pub returns-in_err-reach-clause-dated : goal.returns-in_err-reach-clause-dated
returns-in_err-reach-clause-dated c =
    let edit = edit_of c.args.number c.args.before.now c.args.after.now in
    let went = c.in-Some.ensures edit c.loop-spot.spots.items (text-watched c.args.after.now c.args.watchers.now c.requires.watched) c.loop-spot.invariant in
    let p = err_from_is_err_and c.from_residual-in_err-reach.result c.from_residual-in_err-reach.ensures.1 in
    rw (p.1, p.2)
    (cause-map (is_dated c.txn_at-txn.result.now ≡ true) (ReachesDated (edit_of c.args.number c.args.before.now c.args.after.now))
    (dated-new edit c.loop-spot.spots.items c.loop-spot.spots.items c.in-Some.spot c.next.new.self c.txn_at-txn.result.now went c.txn_at-txn.ensures)
    c.in_err-reach.field-0.0 c.in_err-reach.ensures.dated)
