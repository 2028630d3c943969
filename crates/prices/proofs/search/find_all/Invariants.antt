use Rattle.std.proofs.Common.{◌≡◌, ℕ, List}
use Rattle.std.specs.Ordering.{nat_cmp}
use Rattle.std.specs.Cmp.Lexicographic.{slice_cmp}
use Rattle.std.specs.BTreeMap.{is_at}
use Rattle.std.specs.Map.{lookup}
use Rattle.prices.specs.Search.{found_within}
use Rattle.prices.proofs.search.find_all.Given as goal

abbrev pub invariant-loop-level : goal.invariant-loop-level
invariant-loop-level l = (symbol : List ℕ) → lookup (is_at (slice_cmp nat_cmp symbol)) l.found.entries ≡ found_within l.steps l.target l.level symbol
