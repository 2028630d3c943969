use Rattle.std.proofs.Common.{◌≡◌, ◌∙◌, ◌+◌, ◌-◌, ◌<◌, List, ℕ, length, true, false, is_some, refl, sym, ap, arith}
use Rattle.std.specs.Ordering.{nat_cmp}
use Rattle.std.specs.Cmp.Lexicographic.{slice_cmp}
use Rattle.std.specs.FinMap.Entries.{put}
use Rattle.text_store.specs.Names.{places_in, place_at}
use Rattle.text_store.proofs.Named.{named_again, own_more, placed_more, none_placed, all_placed}
use Rattle.text_store.proofs.naming.places_of.Goals as goal

pub loop-at-init : goal.loop-at-init
loop-at-init c = none_placed c.args.states.now (length c.args.states.now) c.new-places.result.entries refl c.new-places.ensures.empty

pub returns-then-is_some : goal.returns-then-is_some
returns-then-is_some c =
    let states = c.args.states.now in
    let next = c.loop-at.at in
    let state = c.index-states-at.result in
    let places = places_in c.loop-at.places.entries in
    let named : c.as_bytes-name.result.now ≡ state.name = cc in
    let inside : next - 1 < length states = omega (arith, c.loop-at-test.true, c.loop-at.invariant.0) in
    let follows : next ≡ next - 1 + 1 = omega (arith, c.loop-at-test.true) in
    named_again states (next - 1) next state places inside c.index-states-at.is follows c.loop-at.invariant.1 c.loop-at.invariant.2
    (ap (λ (name : List ℕ). is_some (place_at name places)) (sym named) ∙ ap is_some (sym c.place_of.ensures) ∙ sym c.is_some.ensures ∙ c.if-is_some.true)

pub loop-at-preserved : goal.loop-at-preserved
loop-at-preserved c =
    let states = c.args.states.now in
    let next = c.loop-at.at in
    let state = c.index-states-at.result in
    let places = places_in c.loop-at.places.entries in
    let named : c.as_bytes-name.result.now ≡ state.name = cc in
    let inside : next - 1 < length states = omega (arith, c.loop-at-test.true, c.loop-at.invariant.0) in
    let follows : next ≡ next - 1 + 1 = omega (arith, c.loop-at-test.true) in
    let other : is_some (place_at state.name places) ≡ false =
    ap (λ (name : List ℕ). is_some (place_at name places)) (sym named) ∙ ap is_some (sym c.place_of.ensures) ∙ sym c.is_some.ensures ∙ c.if-is_some.false in (
      omega (arith, inside),
      own_more states (next - 1) next state places inside c.index-states-at.is follows c.loop-at.invariant.1 c.loop-at.invariant.2 other,
      placed_more states (next - 1) next state places inside c.index-states-at.is follows c.loop-at.invariant.1 c.loop-at.invariant.2 (places_in c.put_place.new.places.entries)
          (c.in_ok-put_place.ensures.ok ∙ ap (λ (name : List ℕ). put (slice_cmp nat_cmp) name (next - 1) places) named),
    )

pub returns : goal.returns
returns c =
    all_placed c.args.states.now c.loop-at.at (places_in c.loop-at.places.entries) c.loop-at-test.false c.loop-at.invariant.1 c.loop-at.invariant.2
