use Rattle.std.proofs.Common.{◌++◌, [], ◌∷◌, ap, arith, inl, inr, length, length-append}
use Rattle.text_store.specs.Rest.{IsAt, HasHeadBegun, IsBegun}
use Rattle.text_store.proofs.Gates.{head_of_header}
use Rattle.text_store.proofs.Moments.{joined, weakened}
use Rattle.text_store.proofs.Resting.{rest_as, tells_still}
use Rattle.text_store.proofs.gate.write_new.Goals as goal

pub returns-in_err-head_new-clause-any_moment : goal.returns-in_err-head_new-clause-any_moment
returns-in_err-head_new-clause-any_moment g c head same rests telling =
    let d = g.D.Disk in
    weakened d.moment d.left_since c.args.device.now c.head_new.new.device (HasHeadBegun c.args.header.now) (IsBegun head c.args.entry.now)
    (c.head_new.ensures.any_moment rests telling) (λ f begun. inl (head_of_header c.args.header.now head f same c.requires.header begun))

pub returns-clause-any_moment : goal.returns-clause-any_moment
returns-clause-any_moment g c head same rests telling =
    let d = g.D.Disk in
    joined d.moment d.left_since c.args.device.now c.head_new.new.device c.append_entry.new.device
    (HasHeadBegun c.args.header.now) (IsAt head c.args.entry.now) (IsBegun head c.args.entry.now)
    (c.head_new.ensures.any_moment rests telling)
    (c.append_entry.ensures.any_moment head (omega (arith, c.requires.header, ap length same, length-append head (0 ∷ [])))
    (rest_as d.seen d.tells_crashes d.may_leave c.head_new.new.device c.args.header.now (head ++ 0 ∷ []) same (c.in_ok-head_new.ensures.done rests))
    (tells_still _ _ c.head_new.ensures.tells telling))
    (λ f begun. inl (head_of_header c.args.header.now head f same c.requires.header begun)) (λ f at. inr at)
