use Rattle.std.proofs.Common.{◌≡◌, ℕ, List, take}
use Rattle.std.specs.Ordering.{nat_cmp}
use Rattle.std.specs.Cmp.Lexicographic.{slice_cmp}
use Rattle.std.specs.BTreeMap.{is_at}
use Rattle.std.specs.Map.{lookup}
use Rattle.prices.specs.Search.{after_steps}
use Rattle.prices.proofs.search.add_level.Given as goal

abbrev pub invariant-loop-step : goal.invariant-loop-step
invariant-loop-step l = (symbol : List ℕ) → lookup (is_at (slice_cmp nat_cmp symbol)) l.found.entries ≡ after_steps l.level (λ s. lookup (is_at (slice_cmp nat_cmp s)) l.initial.found.entries) (take l.step-index l.steps) symbol
