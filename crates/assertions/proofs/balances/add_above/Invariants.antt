use Rattle.std.proofs.Common.{◌≡◌, ℕ, List}
use Rattle.entry_balance.specs.Values.{Value}
use Rattle.assertions.specs.Kept.{IsKept, and_above}
use Rattle.assertions.proofs.balances.add_above.Given as goal

abbrev pub invariant-loop-at : goal.invariant-loop-at
invariant-loop-at l = record {
  kept : (values : List ℕ → List Value) → IsKept values l.initial.below → IsKept (and_above l.at values l.account (l.symbol, l.value)) l.below;
  places : l.below.1 ≡ l.initial.below.1;
}
