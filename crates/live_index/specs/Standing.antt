-- The rows that stand where opposite ones cancel.
use Rattle.std.specs.Prelude.{◌+ℤ◌, unsigned_abs, Bool, ◌&&◌, ◌==◌, List, [], ◌∷◌, if◌then◌else◌}
use Rattle.std.specs.Str.{bytes_eq}
use Rattle.live_index.specs.declared.row.Row.{Row}

-- two rows of one account, symbol and day whose values have as many decimals
abbrev pub are_alike : Row → Row → Bool
are_alike a b =
    bytes_eq a.account b.account && bytes_eq a.symbol b.symbol && (a.day.0 == b.day.0) && (a.value.places == b.value.places)

-- and whose values sum to zero
abbrev pub are_opposite : Row → Row → Bool
are_opposite a b = are_alike a b && (unsigned_abs (a.value.mantissa +ℤ b.value.mantissa) == 0)

-- a row of zero is its own opposite
abbrev pub is_zero : Row → Bool
is_zero row = unsigned_abs row.value.mantissa == 0

-- the rows after one more: the first opposite one goes, and where there is none, the row stands last, unless it is zero
abbrev pub with_row : List Row → Row → List Row
with_row [] row = if is_zero row then [] else row ∷ []
with_row (other ∷ rows) row = if are_opposite other row then rows else other ∷ with_row rows row

-- and after some more
abbrev pub with_rows : List Row → List Row → List Row
with_rows standing [] = standing
with_rows standing (row ∷ rows) = with_rows (with_row standing row) rows

-- the rows that stand of those that were put in, opposite ones cancelled
abbrev pub standing : List Row → List Row
standing rows = with_rows [] rows

-- rows that were prepared for an index: the rows that it had, and those that it will have
pub record Preparing : Type 0 where
  pub before : List Row
  pub after : List Row
