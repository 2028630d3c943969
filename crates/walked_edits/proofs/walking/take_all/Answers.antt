use Rattle.std.proofs.Common.{◌<◌, List, not, length, filter, refl, sym, ap, subst, ◌∙◌}
use Rattle.std.specs.List.{AllByRecursion, range_with_len}
use Rattle.std.proofs.lemmas.Result.{err_from_is_err_and}
use Rattle.book.specs.declared.transaction.Txn.{Txn}
use Rattle.reached_walk.specs.declared.place.Spot.{Spot}
use Rattle.reached_walk.specs.Spots.{holds}
use Rattle.reached_walk.proofs.Running.{left-less}
use Rattle.walked_edits.specs.Forms.{IsInside, put_back, spots_of}
use Rattle.walked_edits.specs.Scenes.{edit_in}
use Rattle.walked_edits.specs.declared.replaced.Replaced.{Replaced}
use Rattle.walked_edits.proofs.Exchanging.{spots_last}
use Rattle.walked_edits.proofs.Taking.{all_taken, has_come, out_inside}
use Rattle.walked_edits.proofs.walking.take_all.Goals as goal

pub loop-spot-init : goal.loop-spot-init
loop-spot-init g c = record { takes = c.requires; back = refl }

pub take_next-requires : goal.take_next-requires
take_next-requires g c = has_come c.args.edit.now c.in-Some.spot c.loop-spot.book.items c.loop-spot.walking c.loop-spot.reach c.next.new.self c.watchers.result.now c.watchers.ensures c.loop-spot.invariant.takes c.in-Some.ensures

pub loop-spot-preserved : goal.loop-spot-preserved
loop-spot-preserved g c = record { takes = c.in_ok-take_next.ensures.takes; back = c.in_ok-take_next.ensures.out.back ∙ c.loop-spot.invariant.back }

pub loop-spot-smaller : goal.loop-spot-smaller
loop-spot-smaller g c =
    let come = has_come c.args.edit.now c.in-Some.spot c.loop-spot.book.items c.loop-spot.walking c.loop-spot.reach c.next.new.self c.watchers.result.now c.watchers.ensures c.loop-spot.invariant.takes c.in-Some.ensures in
    subst (λ (spots : List Spot). length (filter (λ n. not (holds spots n)) (range_with_len 0 (length c.args.edit.now.written))) < length (filter (λ n. not (holds (spots_of c.loop-spot.walking.taken.items) n)) (range_with_len 0 (length c.args.edit.now.written))))
    (sym (ap spots_of c.in_ok-take_next.ensures.out.is ∙ spots_last c.loop-spot.walking.taken.items (record { spot = c.in-Some.spot; txn = c.in_ok-take_next.ensures.out.old })))
    (left-less (edit_in c.args.edit.now) (spots_of c.loop-spot.walking.taken.items) (spots_of c.loop-spot.walking.taken.items) c.in-Some.spot c.next.new.self come.walks)

pub returns-clause-taken : goal.returns-clause-taken
returns-clause-taken g c = all_taken c.args.edit.now c.loop-spot.book.items c.loop-spot.walking c.loop-spot.reach c.watchers.result.now c.watchers.ensures c.loop-spot.invariant.takes c.in_default.ensures

pub returns-clause-back : goal.returns-clause-back
returns-clause-back g c = c.loop-spot.invariant.back

pub returns-clause-inside : goal.returns-clause-inside
returns-clause-inside g c = out_inside c.loop-spot.book.items c.loop-spot.walking.taken.items c.loop-spot.invariant.takes.partly.held

pub returns-in_err-take_next-clause-back : goal.returns-in_err-take_next-clause-back
returns-in_err-take_next-clause-back g c = (λ i. put_back (c.in_err-take_next.ensures.stays.0 i) (c.in_err-take_next.ensures.stays.1 i)) ∙ c.loop-spot.invariant.back

pub returns-in_err-take_next-clause-inside : goal.returns-in_err-take_next-clause-inside
returns-in_err-take_next-clause-inside g c =
    subst (λ (b : List Txn). AllByRecursion (IsInside b) c.take_next.new.walking.taken.items) (sym c.in_err-take_next.ensures.stays.0)
    (subst (λ (forms : List Replaced). AllByRecursion (IsInside c.loop-spot.book.items) forms) (sym c.in_err-take_next.ensures.stays.1)
    (out_inside c.loop-spot.book.items c.loop-spot.walking.taken.items c.loop-spot.invariant.takes.partly.held))

pub returns-in_err-take_next-clause-load : goal.returns-in_err-take_next-clause-load
returns-in_err-take_next-clause-load g c =
    let p = err_from_is_err_and c.from_residual.result c.from_residual.ensures.1 in
    rw (p.1, p.2) c.in_err-take_next.ensures.load
