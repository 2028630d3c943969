use Rattle.std.proofs.Common.{◌≡◌, ◌+◌, List, length, drop, ap, arith}
use Rattle.std.specs.List.{sum_by}
use Rattle.std.proofs.lemmas.List.{drop_all}
use Rattle.hl_base.specs.declared.change.Latest.{Latest}
use Rattle.text_store.proofs.whole.size_of_parts.Goals as goal

pub returns : goal.returns
returns c =
    let none : sum_by (λ state. 12 + length state.name) (drop c.loop-state.state-index c.args.latest.now) ≡ 0 =
    ap (λ (l : List Latest). sum_by (λ state. 12 + length state.name) l) (drop_all c.loop-state.state-index c.args.latest.now (omega (arith, c.loop-state-test.false))) in
    λ _. omega (arith, none, c.loop-state.invariant.0, c.loop-state.invariant.1)
