-- What a table tells.
use Rattle.std.specs.Prelude.{ℕ, List, Option, None, Result, Ok, unwrap_or}
use Rattle.std.specs.BTreeMap.{get_by_text}
use Rattle.prices.specs.Chains.{Pricing, IsRate}
use Rattle.prices.specs.Fraction.{Fraction}
use Rattle.prices.specs.declared.rate.RateRange.{RateRange}
use Rattle.prices.specs.declared.table.Table.{Table}

-- what a table tells of a symbol: nothing where it keeps nothing
abbrev pub rate_in : Table → List ℕ → Result (Option Fraction) RateRange
rate_in table symbol = unwrap_or (get_by_text table.answers symbol) (Ok None)

-- A table tells of each symbol what it is worth in the target by the prices of a day.
abbrev pub AreRates : Pricing → List ℕ → Table → Type 0
AreRates priced target table = (from : List ℕ) → IsRate priced target from (rate_in table from)
