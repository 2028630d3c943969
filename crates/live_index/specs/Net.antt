-- How often a row was put in, less how often its opposite was.
use Rattle.std.specs.Prelude.{◌≡◌, ℤ, pos, negsuc, ◌-ℤ◌, unsigned_abs, Bool, true, false, ◌&&◌, ◌==◌, List}
use Rattle.hl_num.specs.Decimal.{negated}
use Rattle.live_index.specs.declared.row.Row.{Row}
use Rattle.live_index.specs.Rows.{sum_by}
use Rattle.live_index.specs.Standing.{are_alike, are_opposite}

abbrev pub is_same : Row → Row → Bool
is_same a b = are_alike a b && (unsigned_abs (a.value.mantissa -ℤ b.value.mantissa) == 0)

-- one for a row, less one for its opposite
abbrev pub sign : Bool → Bool → ℤ
sign true true = pos 0
sign true false = pos 1
sign false true = negsuc 0
sign false false = pos 0

abbrev pub weight : Row → Row → ℤ
weight row other = sign (is_same other row) (are_opposite other row)

abbrev pub net : Row → List Row → ℤ
net row rows = sum_by (weight row) rows

-- two lists have each row as often, opposite ones taken off
abbrev pub SameNet : List Row → List Row → Type 0
SameNet a b = (row : Row) → net row a ≡ net row b

-- the row that takes another off
abbrev pub negated_row : Row → Row
negated_row row = record { account = row.account; symbol = row.symbol; day = row.day; value = negated row.value }
