use Rattle.std.proofs.Common.{◌≡◌, ◌∙◌, ◌-◌, ◌++◌, [], ap, arith, inl, inr, length, take, drop, min, Bool, IsTrue, List, ℕ, sym, subst, refl, take-append-drop, length-take, length-drop}
use Rattle.std.proofs.lemmas.List.{take_all}
use Rattle.hl_base.specs.Disk.{Torn}
use Rattle.hl_base.proofs.Replays.{on_ok_map}
use Rattle.text_store.specs.Rest.{AfterStep, HasHeadBegun}
use Rattle.text_store.proofs.Gates.{over_rest}
use Rattle.text_store.proofs.Moments.{joined}
use Rattle.text_store.proofs.Resting.{rest_as, rest_stands, outcome}
use Rattle.text_store.proofs.gate.head_new.Goals as goal

pub returns-clause-done : goal.returns-clause-done
returns-clause-done g c = on_ok_map c.write_durably-2.result (λ second rests.
    let d = g.D.Disk in
    let header = c.args.header.now in
    let tail = take (length header - 8) (drop 8 header) in
    let whole : tail ≡ drop 8 header = take_all (length header - 8) (drop 8 header) (omega (arith, length-drop 8 header)) in
    let size : length (take 8 header) ≡ 8 = omega (arith, length-take 8 header, c.requires) in
    let middle = rest_as d.seen d.tells_crashes d.may_leave c.write_durably.new.device _ (take 8 header) (over_rest [] (take 8 header) 0 refl)
    (c.in_ok-write_durably.ensures.rests [] rests.told) in
    rest_as d.seen d.tells_crashes d.may_leave c.write_durably-2.new.device _ header (over_rest (take 8 header) tail 8 size ∙ ap (λ (l : List ℕ). take 8 header ++ l) whole ∙ take-append-drop 8 header)
    (second (take 8 header) middle.told))
    c.write_durably-2.ensures.rests

pub returns-clause-any_moment : goal.returns-clause-any_moment
returns-clause-any_moment g c rests telling =
    let d = g.D.Disk in
    let header = c.args.header.now in
    let tail = take (length header - 8) (drop 8 header) in
    let whole : tail ≡ drop 8 header = take_all (length header - 8) (drop 8 header) (omega (arith, length-drop 8 header)) in
    let size : length (take 8 header) ≡ 8 = omega (arith, length-take 8 header, c.requires) in
    let still : IsTrue (d.tells_crashes c.write_durably.new.device) = subst (λ (b : Bool). IsTrue b) (sym c.write_durably.ensures.tells) telling in
    let middle = rest_as d.seen d.tells_crashes d.may_leave c.write_durably.new.device _ (take 8 header) (over_rest [] (take 8 header) 0 refl)
    (c.in_ok-write_durably.ensures.rests [] rests.told) in
    joined d.moment d.left_since c.args.device.now c.write_durably.new.device c.write_durably-2.new.device
    (AfterStep (Torn 0 (length (take 8 header))) (d.may_leave c.args.device.now)) (AfterStep (Torn 8 (length tail)) (d.may_leave c.write_durably.new.device)) (HasHeadBegun header)
    c.write_durably.ensures.any_moment c.write_durably-2.ensures.any_moment
    (outcome d.seen d.tells_crashes d.may_leave c.args.device.now (λ f. f ≡ []) (HasHeadBegun header) (Torn 0 (length (take 8 header))) (rest_stands d.seen d.tells_crashes d.may_leave c.args.device.now [] rests) telling
    (λ f left is torn. inl (omega (arith, torn.no_longer, ap length is, size))))
    (outcome d.seen d.tells_crashes d.may_leave c.write_durably.new.device (λ f. f ≡ take 8 header) (HasHeadBegun header) (Torn 8 (length tail))
    (rest_stands d.seen d.tells_crashes d.may_leave c.write_durably.new.device (take 8 header) middle) still
    (λ f left is torn.
    let eight : min 8 (length f) ≡ 8 = omega (arith, ap length is, size) in
    let head : take 8 left ≡ take 8 header = ap (λ (k : ℕ). take k left) (sym eight) ∙ torn.before ∙ ap (λ (k : ℕ). take k f) eight
    ∙ take_all 8 f (omega (arith, ap length is, size)) ∙ is in
    inr (head, omega (arith, torn.no_longer, ap length is, size, ap length whole, length-drop 8 header, c.requires))))
