use Rattle.std.proofs.Common.{◌≡◌, ◌+◌, ◌++◌, [], ◌∷◌, List, ℕ, Bool, IsTrue, sym, subst}
use Rattle.hl_base.specs.Disk.{Torn, Cut}
use Rattle.hl_base.proofs.Replays.{on_ok_map}
use Rattle.text_store.specs.Rest.{AfterStep, IsAt}
use Rattle.text_store.specs.Ends.{IsShutAt}
use Rattle.text_store.proofs.Ending.{cut_end_stays, cut_end_done, end_shut}
use Rattle.text_store.proofs.Moments.{weakened, joined, from_step, from_before}
use Rattle.text_store.proofs.Gates.{cut_stays, cut_done, end_at, written_gate}
use Rattle.text_store.proofs.Resting.{on_err_of, rest_stands, rest_as, steps_on, outcome}
use Rattle.text_store.proofs.gate.shut_gate.Goals as goal

pub returns-in_err-cut_durably-clause-fault : goal.returns-in_err-cut_durably-clause-fault
returns-in_err-cut_durably-clause-fault g c = on_err_of c.from_residual.result (λ front entry size stands.
    let d = g.D.Disk in
    steps_on d.seen d.tells_crashes d.may_leave c.args.device.now c.cut_durably.new.device (IsAt front entry) (IsAt front entry) (Cut (c.args.gate + 1))
    stands c.cut_durably.ensures.partial c.cut_durably.ensures.crash c.cut_durably.ensures.tells
    (λ f left at cut. cut_stays front c.args.gate size entry f left at cut))

pub returns-in_err-cut_durably-clause-any_moment : goal.returns-in_err-cut_durably-clause-any_moment
returns-in_err-cut_durably-clause-any_moment g c front entry size stands telling =
    let d = g.D.Disk in
    let step = Cut (c.args.gate + 1) in
    weakened d.moment d.left_since c.args.device.now c.cut_durably.new.device (AfterStep step (d.may_leave c.args.device.now)) (IsAt front entry) c.cut_durably.ensures.any_moment
    (outcome d.seen d.tells_crashes d.may_leave c.args.device.now (IsAt front entry) (IsAt front entry) step stands telling
    (λ f left at cut. cut_stays front c.args.gate size entry f left at cut))

pub returns-clause-shut : goal.returns-clause-shut
returns-clause-shut g c = on_ok_map c.write_durably.result (λ second front entry size stands.
    let d = g.D.Disk in
    let gate = cut_done front c.args.gate size entry stands.file stands.fits in
    let middle = rest_as d.seen d.tells_crashes d.may_leave c.cut_durably.new.device _ (front ++ gate.0 ∷ []) gate.1
    (c.in_ok-cut_durably.ensures.rests stands.file stands.told) in
    rest_as d.seen d.tells_crashes d.may_leave c.write_durably.new.device _ (front ++ 0 ∷ []) (written_gate front c.args.gate size gate.0 0 [])
    (second (front ++ gate.0 ∷ []) middle.told))
    c.write_durably.ensures.rests

pub returns-clause-fault : goal.returns-clause-fault
returns-clause-fault g c = on_err_of c.write_durably.result (λ front entry size stands.
    let d = g.D.Disk in
    let gate = cut_done front c.args.gate size entry stands.file stands.fits in
    let file = front ++ gate.0 ∷ [] in
    let middle = rest_as d.seen d.tells_crashes d.may_leave c.cut_durably.new.device _ file gate.1
    (c.in_ok-cut_durably.ensures.rests stands.file stands.told) in
    steps_on d.seen d.tells_crashes d.may_leave c.cut_durably.new.device c.write_durably.new.device (λ f. f ≡ file) (IsAt front entry) (Torn c.args.gate 1)
    (rest_stands d.seen d.tells_crashes d.may_leave c.cut_durably.new.device file middle) c.write_durably.ensures.torn c.write_durably.ensures.crash c.write_durably.ensures.tells
    (λ f left is torn. end_at front c.args.gate size gate.0 entry left (subst (λ (l : List ℕ). Torn c.args.gate 1 l left) is torn)))

pub returns-clause-any_moment : goal.returns-clause-any_moment
returns-clause-any_moment g c front entry size stands telling =
    let d = g.D.Disk in
    let gate = cut_done front c.args.gate size entry stands.file stands.fits in
    let file = front ++ gate.0 ∷ [] in
    let step = Cut (c.args.gate + 1) in
    let still : IsTrue (d.tells_crashes c.cut_durably.new.device) = subst (λ (b : Bool). IsTrue b) (sym c.cut_durably.ensures.tells) telling in
    let middle = rest_as d.seen d.tells_crashes d.may_leave c.cut_durably.new.device _ file gate.1
    (c.in_ok-cut_durably.ensures.rests stands.file stands.told) in
    joined d.moment d.left_since c.args.device.now c.cut_durably.new.device c.write_durably.new.device
    (AfterStep step (d.may_leave c.args.device.now)) (AfterStep (Torn c.args.gate 1) (d.may_leave c.cut_durably.new.device)) (IsAt front entry)
    c.cut_durably.ensures.any_moment c.write_durably.ensures.any_moment
    (outcome d.seen d.tells_crashes d.may_leave c.args.device.now (IsAt front entry) (IsAt front entry) step stands telling
    (λ f left at cut. cut_stays front c.args.gate size entry f left at cut))
    (outcome d.seen d.tells_crashes d.may_leave c.cut_durably.new.device (λ f. f ≡ file) (IsAt front entry) (Torn c.args.gate 1) (rest_stands d.seen d.tells_crashes d.may_leave c.cut_durably.new.device file middle) still
    (λ f left is torn. end_at front c.args.gate size gate.0 entry left (subst (λ (l : List ℕ). Torn c.args.gate 1 l left) is torn)))

pub returns-in_err-cut_durably-clause-any_end : goal.returns-in_err-cut_durably-clause-any_end
returns-in_err-cut_durably-clause-any_end g c front size stands telling =
    let d = g.D.Disk in
    let step = Cut (c.args.gate + 1) in
    weakened d.moment d.left_since c.args.device.now c.cut_durably.new.device (AfterStep step (d.may_leave c.args.device.now)) (IsShutAt front) c.cut_durably.ensures.any_moment
    (outcome d.seen d.tells_crashes d.may_leave c.args.device.now (IsShutAt front) (IsShutAt front) step stands telling
    (λ f left at cut. cut_end_stays front c.args.gate size f left at cut))

pub returns-clause-shut_end : goal.returns-clause-shut_end
returns-clause-shut_end g c = on_ok_map c.write_durably.result (λ second front size stands.
    let d = g.D.Disk in
    let gate = cut_end_done front c.args.gate size stands.file stands.fits in
    let middle = rest_as d.seen d.tells_crashes d.may_leave c.cut_durably.new.device _ (front ++ gate.0 ∷ []) gate.1
    (c.in_ok-cut_durably.ensures.rests stands.file stands.told) in
    rest_as d.seen d.tells_crashes d.may_leave c.write_durably.new.device _ (front ++ 0 ∷ []) (written_gate front c.args.gate size gate.0 0 [])
    (second (front ++ gate.0 ∷ []) middle.told))
    c.write_durably.ensures.rests

pub returns-clause-any_end : goal.returns-clause-any_end
returns-clause-any_end g c front size stands telling =
    let d = g.D.Disk in
    let gate = cut_end_done front c.args.gate size stands.file stands.fits in
    let file = front ++ gate.0 ∷ [] in
    let step = Cut (c.args.gate + 1) in
    let still : IsTrue (d.tells_crashes c.cut_durably.new.device) = subst (λ (b : Bool). IsTrue b) (sym c.cut_durably.ensures.tells) telling in
    let middle = rest_as d.seen d.tells_crashes d.may_leave c.cut_durably.new.device _ file gate.1
    (c.in_ok-cut_durably.ensures.rests stands.file stands.told) in
    joined d.moment d.left_since c.args.device.now c.cut_durably.new.device c.write_durably.new.device
    (AfterStep step (d.may_leave c.args.device.now)) (AfterStep (Torn c.args.gate 1) (d.may_leave c.cut_durably.new.device)) (IsShutAt front)
    c.cut_durably.ensures.any_moment c.write_durably.ensures.any_moment
    (outcome d.seen d.tells_crashes d.may_leave c.args.device.now (IsShutAt front) (IsShutAt front) step stands telling
    (λ f left at cut. cut_end_stays front c.args.gate size f left at cut))
    (outcome d.seen d.tells_crashes d.may_leave c.cut_durably.new.device (λ f. f ≡ file) (IsShutAt front) (Torn c.args.gate 1) (rest_stands d.seen d.tells_crashes d.may_leave c.cut_durably.new.device file middle) still
    (λ f left is torn. end_shut front c.args.gate size gate.0 left (subst (λ (l : List ℕ). Torn c.args.gate 1 l left) is torn)))

pub returns-in_err-cut_durably-clause-comes : goal.returns-in_err-cut_durably-clause-comes
returns-in_err-cut_durably-clause-comes g c =
    let d = g.D.Disk in
    from_step d.moment d.left_since c.args.device.now c.cut_durably.new.device d.may_leave (Cut (c.args.gate + 1)) c.cut_durably.ensures.any_moment

pub returns-clause-comes : goal.returns-clause-comes
returns-clause-comes g c =
    let d = g.D.Disk in
    from_before d.moment d.left_since c.args.device.now c.cut_durably.new.device c.write_durably.new.device d.may_leave g.met.D.Disk.counts_now
    (from_step d.moment d.left_since c.args.device.now c.cut_durably.new.device d.may_leave (Cut (c.args.gate + 1)) c.cut_durably.ensures.any_moment)
    (from_step d.moment d.left_since c.cut_durably.new.device c.write_durably.new.device d.may_leave (Torn c.args.gate 1) c.write_durably.ensures.any_moment)

pub returns-in_err-cut_durably-clause-fault_end : goal.returns-in_err-cut_durably-clause-fault_end
returns-in_err-cut_durably-clause-fault_end g c = on_err_of c.from_residual.result (λ front size stands.
    let d = g.D.Disk in
    steps_on d.seen d.tells_crashes d.may_leave c.args.device.now c.cut_durably.new.device (IsShutAt front) (IsShutAt front) (Cut (c.args.gate + 1))
    stands c.cut_durably.ensures.partial c.cut_durably.ensures.crash c.cut_durably.ensures.tells
    (λ f left at cut. cut_end_stays front c.args.gate size f left at cut))

pub returns-clause-fault_end : goal.returns-clause-fault_end
returns-clause-fault_end g c = on_err_of c.write_durably.result (λ front size stands.
    let d = g.D.Disk in
    let gate = cut_end_done front c.args.gate size stands.file stands.fits in
    let file = front ++ gate.0 ∷ [] in
    let middle = rest_as d.seen d.tells_crashes d.may_leave c.cut_durably.new.device _ file gate.1
    (c.in_ok-cut_durably.ensures.rests stands.file stands.told) in
    steps_on d.seen d.tells_crashes d.may_leave c.cut_durably.new.device c.write_durably.new.device (λ f. f ≡ file) (IsShutAt front) (Torn c.args.gate 1)
    (rest_stands d.seen d.tells_crashes d.may_leave c.cut_durably.new.device file middle) c.write_durably.ensures.torn c.write_durably.ensures.crash c.write_durably.ensures.tells
    (λ f left is torn. end_shut front c.args.gate size gate.0 left (subst (λ (l : List ℕ). Torn c.args.gate 1 l left) is torn)))
