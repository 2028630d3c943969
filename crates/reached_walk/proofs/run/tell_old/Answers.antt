use Rattle.std.proofs.Common.{◌≡◌, true, List, slice_get, Some, ap, ◌∙◌}
use Rattle.book.specs.declared.transaction.Txn.{Txn}
use Rattle.reached_walk.specs.Apart.{is_dated}
use Rattle.reached_walk.specs.Walks.{IsTold, IsToldOf, WasDated}
use Rattle.reached_walk.proofs.Handing.{begun-new}
use Rattle.reached_walk.proofs.Noting.{got-at, none-at}
use Rattle.reached_walk.proofs.Running.{err-map, on-map}
use Rattle.reached_walk.proofs.run.tell_old.Goals as goal

pub returns-in-Some-clause-told : goal.returns-in-Some-clause-told
returns-in-Some-clause-told c =
    let got : slice_get c.args.before.now c.args.spot.number ≡ Some c.in-Some.old.now = got-at c.args.before.now c.args.spot.number c.in-Some.old.now c.in-Some.ensures.lookup.3.0 c.in-Some.ensures.lookup.1 in
    on-map (IsToldOf c.args.watchers.now c.args.spot c.in-Some.old.now c.args.walk.now c.leave.new.self) (IsTold c.args.watchers.now c.args.spot c.args.before.now c.args.walk.now c.leave.new.self)
    (λ f edit spots told is watched others own h. f edit spots told watched others own (ap (λ (ts : List Txn). slice_get ts c.args.spot.number) is ∙ got) h)
    c.leave.result c.leave.ensures.told

pub returns-in-Some-clause-dated : goal.returns-in-Some-clause-dated
returns-in-Some-clause-dated c =
    let got : slice_get c.args.before.now c.args.spot.number ≡ Some c.in-Some.old.now = got-at c.args.before.now c.args.spot.number c.in-Some.old.now c.in-Some.ensures.lookup.3.0 c.in-Some.ensures.lookup.1 in
    err-map (is_dated c.in-Some.old.now ≡ true) (WasDated c.args.spot.number c.args.before.now) (λ dated. (c.in-Some.old.now, got, dated)) c.leave.result c.leave.ensures.dated

pub returns-in-None-clause-told : goal.returns-in-None-clause-told
returns-in-None-clause-told c = λ edit spots told is watched others own h.
    begun-new edit spots told c.args.spot c.args.walk.now (ap (λ (ts : List Txn). slice_get ts c.args.spot.number) is ∙ none-at c.args.before.now c.args.spot.number c.in-None.ensures.lookup.3) h
