use Rattle.std.proofs.Common.{◌≡◌, [], ap, arith, inl, inr, length}
use Rattle.hl_base.specs.Disk.{Torn, Cut}
use Rattle.text_store.specs.Rest.{IsRewritten}
use Rattle.text_store.proofs.Moments.{from_step, from_before}
use Rattle.text_store.proofs.Resting.{on_err_of, rest_stands, steps_on}
use Rattle.text_store.proofs.gate.head_anew.Goals as goal

pub returns-clause-fault : goal.returns-clause-fault
returns-clause-fault g c = on_err_of c.write_durably.result (λ file head entry rests.
    let d = g.D.Disk in
    steps_on d.seen d.tells_crashes d.may_leave c.cut_durably.new.device c.write_durably.new.device (λ f. f ≡ []) (IsRewritten file head entry) (Torn 0 (length c.args.header.now))
    (rest_stands d.seen d.tells_crashes d.may_leave c.cut_durably.new.device [] (c.in_ok-cut_durably.ensures.rests file rests.told))
    c.write_durably.ensures.torn c.write_durably.ensures.crash c.write_durably.ensures.tells
    (λ f left is torn. inr (inl (omega (arith, torn.no_longer, ap length is, c.requires)))))

pub returns-in_err-cut_durably-clause-comes : goal.returns-in_err-cut_durably-clause-comes
returns-in_err-cut_durably-clause-comes g c =
    let d = g.D.Disk in
    from_step d.moment d.left_since c.args.device.now c.cut_durably.new.device d.may_leave (Cut 0) c.cut_durably.ensures.any_moment

pub returns-clause-comes : goal.returns-clause-comes
returns-clause-comes g c =
    let d = g.D.Disk in
    from_before d.moment d.left_since c.args.device.now c.cut_durably.new.device c.write_durably.new.device d.may_leave g.met.D.Disk.counts_now
    (from_step d.moment d.left_since c.args.device.now c.cut_durably.new.device d.may_leave (Cut 0) c.cut_durably.ensures.any_moment)
    (from_step d.moment d.left_since c.cut_durably.new.device c.write_durably.new.device d.may_leave (Torn 0 (length c.args.header.now)) c.write_durably.ensures.any_moment)
