-- What an answer says of the rows that are told.
use Rattle.std.specs.Prelude.{ℕ, ℤ, ◌≡◌, ◌≤◌, List}
use Rattle.hl_num.specs.Decimal.{Decimal, units_of}
use Rattle.live_index.specs.declared.row.Row.{Row}
use Rattle.live_index.specs.Rows.{places_of}

-- a sum in a symbol: its exact value, with no more decimals than the rows have
pub record IsSum (rows : List Row) (symbol : List ℕ) (sum : ℤ) (answer : Decimal) : Type 0 where
  pub value : units_of answer ≡ sum
  pub places : answer.places ≤ places_of symbol rows
