use Rattle.std.proofs.Common.{◌+◌}
use Rattle.placed_sums.proofs.Asking.{beside_next, beside_some}
use Rattle.placed_sums.proofs.placed.first_beside.Goals as goal

pub returns-then-is_beside-clause-few : goal.returns-then-is_beside-clause-few
returns-then-is_beside-clause-few g c =
    let symbol = c.args.symbol.now in
    let symbols = c.args.symbols.now in
    let i = c.loop-other.other-index in
    let before = c.args.steps.now.nodes in
    let after = c.is_beside.new.steps.nodes in
    beside_some symbol symbols (i + 1) before after
    (beside_next symbol symbols i c.other-item.result c.loop-other-test.true c.other-item.is before c.loop-other.steps.nodes after c.loop-other.invariant.few c.is_beside.ensures.few)

pub returns-clause-few : goal.returns-clause-few
returns-clause-few g c =
    beside_some c.args.symbol.now c.args.symbols.now c.loop-other.other-index c.args.steps.now.nodes c.loop-other.steps.nodes c.loop-other.invariant.few
