use Rattle.std.proofs.Common.{◌≡◌, ◌∙◌, ◌<◌, ◌++◌, ◌∷◌, true, false, List, length, refl, sym, ap, arith}
use Rattle.hl_base.specs.declared.change.Latest.{Latest}
use Rattle.text_store.specs.Image.{same_name, with_mark}
use Rattle.follower.proofs.Texts.{mark_here, mark_past, mark_last}
use Rattle.follower.proofs.puts.states_with.Goals as goal

pub loop-i-init : goal.loop-i-init
loop-i-init c = (refl, ap (λ (l : List Latest). l ++ with_mark c.args.state.now c.args.states.now) c.in_ok-made.ensures.items)

pub returns-then-is_named_as : goal.returns-then-is_named_as
returns-then-is_named_as c =
    let states = c.args.states.now in
    let state = c.args.state.now in
    let i = c.loop-i.i in
    let before = c.loop-i.made.items in
    let other = c.index-states-i.result in
    let less : i < length states = omega (arith, c.loop-i-test.true, c.loop-i.invariant.0) in
    let same : same_name other state ≡ true = sym c.is_named_as.ensures ∙ c.if-is_named_as.true in
    mark_here state states i other less c.index-states-i.is same before c.from_vec.result c.loop-i.invariant.1
    (c.from_vec.ensures ∙ c.in_ok-push_before.ensures ∙ ap (λ (l : List Latest). before ++ state ∷ l) c.split_at.ensures.back)

pub loop-i-preserved : goal.loop-i-preserved
loop-i-preserved c =
    let states = c.args.states.now in
    let state = c.args.state.now in
    let i = c.loop-i.i in
    let before = c.loop-i.made.items in
    let other = c.index-states-i.result in
    let less : i < length states = omega (arith, c.loop-i-test.true, c.loop-i.invariant.0) in
    let differs : same_name other state ≡ false = sym c.is_named_as.ensures ∙ c.if-is_named_as.false in
    (c.loop-i.invariant.0, mark_past state states i other less c.index-states-i.is differs before c.push_state.new.made.items c.loop-i.invariant.1 c.in_ok-push_state.ensures)

pub returns : goal.returns
returns c =
    mark_last c.args.state.now c.args.states.now c.loop-i.i (omega (arith, c.loop-i-test.false, c.loop-i.auto.i-end, c.loop-i.invariant.0)) c.loop-i.made.items c.from_vec-2.result
    c.loop-i.invariant.1 (c.from_vec-2.ensures ∙ c.in_ok-push_state-2.ensures)
