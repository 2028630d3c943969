use Rattle.std.proofs.Common.{◌≡◌, ◌∙◌, ◌++◌, List, ℕ, ap, drop, rules, ◌+◌, arith}
use Rattle.std.specs.List.{flat_map}
use Rattle.text_store.specs.Changes.{mark_payload}
use Rattle.text_store.proofs.Listing.{flat_step, states_step, short_step}
use Rattle.text_store.proofs.whole.states_bytes.Goals as goal

pub loop-state-preserved : goal.loop-state-preserved
loop-state-preserved c =
    let i = c.loop-state.state-index in
    let xs = c.args.latest.now in
    let x = c.state-item.result in
    let pushed : c.extend_from_slice-in-loop-state.new.self.items ≡ c.loop-state.bytes.items ++ mark_payload x = search rules in (
      ap (λ (l : List ℕ). l ++ flat_map mark_payload (drop (i + 1) xs)) pushed ∙ flat_step c.loop-state.bytes.items xs i x (omega (arith, c.loop-state-test.true)) c.state-item.is ∙ c.loop-state.invariant.0,
      states_step xs i x (omega (arith, c.loop-state-test.true)) c.state-item.is c.loop-state.invariant.1 c.in_ok-mark_bytes.ensures.is_state,
      (short_step xs i x (omega (arith, c.loop-state-test.true)) c.state-item.is c.loop-state.invariant.2).1,
    )

pub mark_bytes-requires : goal.mark_bytes-requires
mark_bytes-requires c = (short_step c.args.latest.now c.loop-state.state-index c.state-item.result (omega (arith, c.loop-state-test.true)) c.state-item.is c.loop-state.invariant.2).0
