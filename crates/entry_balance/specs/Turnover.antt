-- Turnovers that are kept while postings are read, one after another.
use Rattle.std.specs.Prelude.{◌≡◌, ◌≤◌, List, map, true}
use Rattle.std.specs.List.{AllByRecursion}
use Rattle.entry_balance.specs.Values.{Value, absolute_value}
use Rattle.entry_balance.specs.Tally.{sums_of, are_within}

-- The sums are the absolute values that were moved before, each within the bound. No value has more than 36 decimals.
pub record IsTurnover (before : List Value) (sums : List Value) : Type 0 where
  pub is : sums ≡ sums_of (map absolute_value before)
  pub within : are_within sums ≡ true
  pub few : AllByRecursion (λ v. v.1.places ≤ 36) before
