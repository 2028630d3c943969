use Rattle.std.proofs.Common.{◌≡◌, ◌+◌, ◌++◌, [], ◌∷◌, List, ℕ, Bool, IsTrue, length, sym, subst}
use Rattle.hl_base.specs.Disk.{Torn}
use Rattle.hl_base.proofs.Replays.{on_ok_map}
use Rattle.text_store.specs.Rest.{AfterStep, IsAt}
use Rattle.text_store.proofs.Moments.{weakened, joined, from_step, from_before}
use Rattle.text_store.proofs.Gates.{behind_at, gate_at, written_behind, written_gate}
use Rattle.text_store.proofs.Resting.{on_err_of, rest_stands, rest_as, steps_on, outcome}
use Rattle.text_store.proofs.gate.append_entry.Goals as goal

-- the first write leaves the gate shut
pub returns-in_err-write_durably-clause-fault : goal.returns-in_err-write_durably-clause-fault
returns-in_err-write_durably-clause-fault g c = on_err_of c.from_residual.result (λ front size rests.
    let d = g.D.Disk in
    let entry = c.args.entry.now in
    let file = front ++ 0 ∷ [] in
    steps_on d.seen d.tells_crashes d.may_leave c.args.device.now c.write_durably.new.device (λ f. f ≡ file) (IsAt front entry) (Torn (c.args.gate + 1) (length entry))
    (rest_stands d.seen d.tells_crashes d.may_leave c.args.device.now file rests) c.write_durably.ensures.torn c.write_durably.ensures.crash c.write_durably.ensures.tells
    (λ f left is torn. behind_at front c.args.gate size (length entry) entry left (subst (λ (l : List ℕ). Torn (c.args.gate + 1) (length entry) l left) is torn)))

pub returns-in_err-write_durably-clause-any_moment : goal.returns-in_err-write_durably-clause-any_moment
returns-in_err-write_durably-clause-any_moment g c front size rests telling =
    let d = g.D.Disk in
    let entry = c.args.entry.now in
    let file = front ++ 0 ∷ [] in
    let step = Torn (c.args.gate + 1) (length entry) in
    weakened d.moment d.left_since c.args.device.now c.write_durably.new.device (AfterStep step (d.may_leave c.args.device.now)) (IsAt front entry) c.write_durably.ensures.any_moment
    (outcome d.seen d.tells_crashes d.may_leave c.args.device.now (λ f. f ≡ file) (IsAt front entry) step (rest_stands d.seen d.tells_crashes d.may_leave c.args.device.now file rests) telling
    (λ f left is torn. behind_at front c.args.gate size (length entry) entry left (subst (λ (l : List ℕ). Torn (c.args.gate + 1) (length entry) l left) is torn)))

-- the second opens it
pub returns-clause-acknowledged : goal.returns-clause-acknowledged
returns-clause-acknowledged g c = on_ok_map c.open_gate.result (λ second front size rests.
    let d = g.D.Disk in
    let entry = c.args.entry.now in
    let middle = rest_as d.seen d.tells_crashes d.may_leave c.write_durably.new.device _ (front ++ 0 ∷ entry) (written_behind front c.args.gate size 0 entry)
    (c.in_ok-write_durably.ensures.rests (front ++ 0 ∷ []) rests.told) in
    rest_as d.seen d.tells_crashes d.may_leave c.open_gate.new.device _ (front ++ 1 ∷ entry) (written_gate front c.args.gate size 0 1 entry)
    (second (front ++ 0 ∷ entry) middle.told))
    c.open_gate.ensures.rests

pub returns-clause-fault : goal.returns-clause-fault
returns-clause-fault g c = on_err_of c.open_gate.result (λ front size rests.
    let d = g.D.Disk in
    let entry = c.args.entry.now in
    let file = front ++ 0 ∷ entry in
    let middle = rest_as d.seen d.tells_crashes d.may_leave c.write_durably.new.device _ file (written_behind front c.args.gate size 0 entry)
    (c.in_ok-write_durably.ensures.rests (front ++ 0 ∷ []) rests.told) in
    steps_on d.seen d.tells_crashes d.may_leave c.write_durably.new.device c.open_gate.new.device (λ f. f ≡ file) (IsAt front entry) (Torn c.args.gate 1)
    (rest_stands d.seen d.tells_crashes d.may_leave c.write_durably.new.device file middle) c.open_gate.ensures.torn c.open_gate.ensures.crash c.open_gate.ensures.tells
    (λ f left is torn. gate_at front c.args.gate size 0 entry left (subst (λ (l : List ℕ). Torn c.args.gate 1 l left) is torn)))

pub returns-clause-any_moment : goal.returns-clause-any_moment
returns-clause-any_moment g c front size rests telling =
    let d = g.D.Disk in
    let entry = c.args.entry.now in
    let start = front ++ 0 ∷ [] in
    let file = front ++ 0 ∷ entry in
    let step = Torn (c.args.gate + 1) (length entry) in
    let still : IsTrue (d.tells_crashes c.write_durably.new.device) = subst (λ (b : Bool). IsTrue b) (sym c.write_durably.ensures.tells) telling in
    let middle = rest_as d.seen d.tells_crashes d.may_leave c.write_durably.new.device _ file (written_behind front c.args.gate size 0 entry)
    (c.in_ok-write_durably.ensures.rests start rests.told) in
    joined d.moment d.left_since c.args.device.now c.write_durably.new.device c.open_gate.new.device
    (AfterStep step (d.may_leave c.args.device.now)) (AfterStep (Torn c.args.gate 1) (d.may_leave c.write_durably.new.device)) (IsAt front entry)
    c.write_durably.ensures.any_moment c.open_gate.ensures.any_moment
    (outcome d.seen d.tells_crashes d.may_leave c.args.device.now (λ f. f ≡ start) (IsAt front entry) step (rest_stands d.seen d.tells_crashes d.may_leave c.args.device.now start rests) telling
    (λ f left is torn. behind_at front c.args.gate size (length entry) entry left (subst (λ (l : List ℕ). Torn (c.args.gate + 1) (length entry) l left) is torn)))
    (outcome d.seen d.tells_crashes d.may_leave c.write_durably.new.device (λ f. f ≡ file) (IsAt front entry) (Torn c.args.gate 1) (rest_stands d.seen d.tells_crashes d.may_leave c.write_durably.new.device file middle) still
    (λ f left is torn. gate_at front c.args.gate size 0 entry left (subst (λ (l : List ℕ). Torn c.args.gate 1 l left) is torn)))

pub returns-in_err-write_durably-clause-comes : goal.returns-in_err-write_durably-clause-comes
returns-in_err-write_durably-clause-comes g c =
    let d = g.D.Disk in
    from_step d.moment d.left_since c.args.device.now c.write_durably.new.device d.may_leave (Torn (c.args.gate + 1) (length c.args.entry.now)) c.write_durably.ensures.any_moment

pub returns-clause-comes : goal.returns-clause-comes
returns-clause-comes g c =
    let d = g.D.Disk in
    from_before d.moment d.left_since c.args.device.now c.write_durably.new.device c.open_gate.new.device d.may_leave g.met.D.Disk.counts_now
    (from_step d.moment d.left_since c.args.device.now c.write_durably.new.device d.may_leave (Torn (c.args.gate + 1) (length c.args.entry.now)) c.write_durably.ensures.any_moment)
    (from_step d.moment d.left_since c.write_durably.new.device c.open_gate.new.device d.may_leave (Torn c.args.gate 1) c.open_gate.ensures.any_moment)
