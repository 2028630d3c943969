use Rattle.std.proofs.Common.{◌≡◌, ◌≤◌, ◌+◌, drop, take}
use Rattle.book.specs.SumsBefore.{OnlyAsked}
use Rattle.placed_sums.specs.Accounts.{first_beside, nodes_beside}
use Rattle.placed_sums.specs.Placed.{sum_placed}
use Rattle.placed_sums.proofs.placed.first_beside.Given as goal

abbrev pub invariant-loop-other : goal.invariant-loop-other
invariant-loop-other g l = record {
  rest : first_beside l.symbol (sum_placed l.sums l.account l.below) (drop l.other-index l.symbols) ≡ first_beside l.symbol (sum_placed l.sums l.account l.below) l.symbols;
  steps : OnlyAsked l.initial.steps l.steps;
  few : l.steps.nodes ≤ l.initial.steps.nodes + nodes_beside l.symbol (take l.other-index l.symbols);
}
