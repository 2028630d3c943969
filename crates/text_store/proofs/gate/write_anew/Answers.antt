use Rattle.std.proofs.Common.{◌++◌, [], ◌∷◌, ap, arith, inr, length, length-append}
use Rattle.hl_base.proofs.Replays.{on_ok_map}
use Rattle.text_store.specs.Rest.{IsAt, IsRewritten}
use Rattle.text_store.proofs.Moments.{joined, from_before}
use Rattle.text_store.proofs.Resting.{rest_as, stands_more, on_err_map, tells_still}
use Rattle.text_store.proofs.gate.write_anew.Goals as goal

pub returns-in_err-head_anew-clause-any_moment : goal.returns-in_err-head_anew-clause-any_moment
returns-in_err-head_anew-clause-any_moment g c file head same rests telling = c.head_anew.ensures.any_moment file head c.args.entry.now rests telling

pub returns-clause-done : goal.returns-clause-done
returns-clause-done g c = on_ok_map c.append_entry.result (λ second file head same rests.
    let d = g.D.Disk in
    second head (omega (arith, c.requires.header, ap length same, length-append head (0 ∷ [])))
    (rest_as d.seen d.tells_crashes d.may_leave c.head_anew.new.device c.args.header.now (head ++ 0 ∷ []) same (c.in_ok-head_anew.ensures.done file rests)))
    c.append_entry.ensures.acknowledged

pub returns-clause-fault : goal.returns-clause-fault
returns-clause-fault g c = on_err_map c.append_entry.result (λ second file head same rests.
    let d = g.D.Disk in
    stands_more d.seen d.tells_crashes d.may_leave c.append_entry.new.device (IsAt head c.args.entry.now) (IsRewritten file head c.args.entry.now) (λ f at. inr (inr at))
    (second head (omega (arith, c.requires.header, ap length same, length-append head (0 ∷ [])))
    (rest_as d.seen d.tells_crashes d.may_leave c.head_anew.new.device c.args.header.now (head ++ 0 ∷ []) same (c.in_ok-head_anew.ensures.done file rests))))
    c.append_entry.ensures.fault

pub returns-clause-any_moment : goal.returns-clause-any_moment
returns-clause-any_moment g c file head same rests telling =
    let d = g.D.Disk in
    joined d.moment d.left_since c.args.device.now c.head_anew.new.device c.append_entry.new.device
    (IsRewritten file head c.args.entry.now) (IsAt head c.args.entry.now) (IsRewritten file head c.args.entry.now)
    (c.head_anew.ensures.any_moment file head c.args.entry.now rests telling)
    (c.append_entry.ensures.any_moment head (omega (arith, c.requires.header, ap length same, length-append head (0 ∷ [])))
    (rest_as d.seen d.tells_crashes d.may_leave c.head_anew.new.device c.args.header.now (head ++ 0 ∷ []) same (c.in_ok-head_anew.ensures.done file rests))
    (tells_still _ _ c.head_anew.ensures.tells telling))
    (λ f rewritten. rewritten) (λ f at. inr (inr at))

pub returns-clause-comes : goal.returns-clause-comes
returns-clause-comes g c =
    let d = g.D.Disk in
    from_before d.moment d.left_since c.args.device.now c.head_anew.new.device c.append_entry.new.device d.may_leave g.met.D.Disk.counts_now
    c.head_anew.ensures.comes
    c.append_entry.ensures.comes
