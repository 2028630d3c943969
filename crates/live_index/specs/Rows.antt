-- Sums of rows, in units of 10^-36.
use Rattle.std.specs.Prelude.{ℕ, ℤ, pos, ◌+◌, ◌-◌, ◌*◌, ◌/◌, ◌^◌, ◌<◌, ◌+ℤ◌, max, unsigned_abs, Bool, ◌&&◌, ◌==◌, nat_lt, List, [], ◌∷◌, filter, if◌then◌else◌}
use Rattle.std.specs.Str.{bytes_eq}
use Rattle.hl_num.specs.Decimal.{units_of}
use Rattle.book.specs.SumsBefore.{is_of}
use Rattle.live_index.specs.declared.row.Row.{Row}

-- a row is in that symbol, of that account or with `below` of one of its subaccounts
abbrev pub counts : List ℕ → List ℕ → Bool → Row → Bool
counts account symbol below row = bytes_eq row.symbol symbol && is_of account below row.account

-- the sum of what each row weighs
abbrev pub sum_by : (Row → ℤ) → List Row → ℤ
sum_by weight [] = pos 0
sum_by weight (row ∷ rows) = weight row +ℤ sum_by weight rows

-- the plain sum
abbrev pub total : List Row → ℤ
total rows = sum_by (λ row. units_of row.value) rows

-- the sum of a node: of the days whose number divided by 2^level, rounded down, is `at`
abbrev pub node_sum : List Row → List ℕ → List ℕ → Bool → ℕ → ℕ → ℤ
node_sum rows account symbol below level at =
    total (filter (λ row. counts account symbol below row && (row.day.0 / 2 ^ level == at)) rows)

-- the sum of the days before `end`
abbrev pub sum_before : List Row → List ℕ → List ℕ → Bool → ℕ → ℤ
sum_before rows account symbol below end =
    total (filter (λ row. counts account symbol below row && nat_lt row.day.0 end) rows)

-- the sum of the absolute values in a symbol
abbrev pub turnover : List ℕ → List Row → ℕ
turnover symbol [] = 0
turnover symbol (row ∷ rows) =
    (if bytes_eq row.symbol symbol then unsigned_abs (units_of row.value) else 0) + turnover symbol rows

-- the greatest number of decimals in a symbol
abbrev pub places_of : List ℕ → List Row → ℕ
places_of symbol [] = 0
places_of symbol (row ∷ rows) =
    max (if bytes_eq row.symbol symbol then row.value.places else 0) (places_of symbol rows)

-- In each symbol the absolute values, in units of the greatest number of decimals, sum to less than 2^127.
abbrev pub TurnoverFits : List Row → Type 0
TurnoverFits rows = (symbol : List ℕ) → turnover symbol rows < 2 ^ 127 * 10 ^ (36 - places_of symbol rows)
