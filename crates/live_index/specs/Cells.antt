-- Sums by account, symbol, number of decimals and day.
use Rattle.std.specs.Prelude.{◌≡◌, ◌⊎◌, ℕ, ℤ, pos, length, ◌-◌, ◌<◌, ◌+ℤ◌, Bool, ◌&&◌, nat_lt, nat_eq, ◌==◌, List, [], ◌∷◌, ◌++◌, slice_index_or, Option, None, Some, unwrap_or, filter, T}
use Rattle.std.specs.declared.cmp.Ordering.{Ordering}
use Rattle.std.specs.declared.cmp.Ordering.TheVariants.{Less, Greater}
use Rattle.std.specs.Ordering.{nat_cmp, bool_cmp, ordering_then, eq_by_cmp}
use Rattle.std.specs.List.{starts_with, AllByRecursion}
use Rattle.std.specs.Str.{bytes_eq}
use Rattle.hl_base.specs.Ascii.{colon}
use Rattle.std.specs.Cmp.Lexicographic.{slice_cmp}
use Rattle.std.specs.FinMap.Entries.{find, is_sorted}
pub use Rattle.book.specs.Keys.{Key}
use Rattle.live_index.specs.declared.row.Row.{Row}
use Rattle.live_index.specs.declared.runs.Run.{Run}
use Rattle.live_index.specs.Rows.{counts, sum_by}
use Rattle.live_index.specs.Runs.{Alike, before, raise, AreTogether}

-- by account, then by symbol, then by `below`
abbrev pub key_cmp : Key → Key → Ordering
key_cmp a b =
    ordering_then (slice_cmp nat_cmp a.account b.account)
    (ordering_then (slice_cmp nat_cmp a.symbol b.symbol) (bool_cmp a.below b.below))

abbrev pub is_key : Key → Key → Bool
is_key key other = eq_by_cmp key_cmp other key

-- a row is one of the key's
abbrev pub counts_for : Key → Row → Bool
counts_for key row = counts key.account key.symbol key.below row

-- the sums of a key, by number of decimals
abbrev pub Cell : Type 0
Cell = Key × List (List Run)

-- the keys strictly rise
abbrev pub IsOrdered : List Cell → Type 0
IsOrdered cells = T (is_sorted key_cmp cells)

abbrev pub sums_of : Key → List Cell → List (List Run)
sums_of key cells = unwrap_or (find key_cmp key cells) []

-- a key's sums, or none where it has no cell
abbrev pub told_by : Option Cell → List (List Run)
told_by None = []
told_by (Some cell) = cell.1

-- an account is one above another in a symbol
abbrev pub is_above : List ℕ → List ℕ → Key → Bool
is_above account symbol key =
    bytes_eq symbol key.symbol && (key.below && starts_with nat_eq account (key.account ++ colon ∷ []))

-- the sums of amounts with a number of decimals
abbrev pub runs_in : List (List Run) → ℕ → List Run
runs_in sums places = slice_index_or sums places []

-- a row has so many decimals, and its day comes before `end`
abbrev pub is_part : Row → ℕ → ℕ → Bool
is_part row places end = (row.value.places == places) && nat_lt row.day.0 end

-- the sum of a key's amounts with a number of decimals before a day
abbrev pub told : Key → List Cell → ℕ → ℕ → ℤ
told key cells places end = before (runs_in (sums_of key cells) places) end

-- the sums of two cells
abbrev pub AreSummed : List (List Run) → List (List Run) → List (List Run) → Type 0
AreSummed first second both =
    (places : ℕ) → AreTogether (runs_in first places) (runs_in second places) (runs_in both places)

-- the sum of the mantissas of the rows with a number of decimals before a day
abbrev pub mantissas_in : List Row → ℕ → ℕ → ℤ
mantissas_in rows places end = sum_by (λ row. row.value.mantissa) (filter (λ row. is_part row places end) rows)

-- the sums of some rows, modulo 2^128
abbrev pub AreOfRows : List Row → List (List Run) → Type 0
AreOfRows rows sums = (places end : ℕ) → Alike (before (runs_in sums places) end) (mantissas_in rows places end)

-- some day's sum changes with the greatest number of decimals: no cell is kept that tells nothing
abbrev pub HasDays : List (List Run) → Type 0
HasDays sums = runs_in sums (length sums - 1) ≡ [] → ⊥

-- sums of a cell: the last are not empty
abbrev pub IsTrimmed : List (List Run) → Type 0
IsTrimmed sums = (0 < length sums) → HasDays sums

abbrev pub NoneEmpty : List Cell → Type 0
NoneEmpty cells = AllByRecursion (λ cell. HasDays cell.1) cells

-- what is kept: each key once and in turn, and none of which no sum is left
pub record AreCells (cells : List Cell) : Type 0 where
  pub ordered : IsOrdered cells
  pub full : NoneEmpty cells

-- cells that tell the sums of two lists of cells, modulo 2^128
pub record AreJoined (first second both : List Cell) : Type 0 where
  pub cells : AreCells both
  pub sums : (key : Key) (places end : ℕ) →
      Alike (told key both places end) (told key first places end +ℤ told key second places end)

-- sums were added to those of the keys that pass a test
pub record HasAdded (test : Key → Bool) (sums : List (List Run)) (old new : List Cell) : Type 0 where
  pub cells : AreCells new
  pub gained : (key : Key) (places end : ℕ) →
      Alike (told key new places end)
      (raise (test key) (before (runs_in sums places) end) (told key old places end))

-- which of two lists begins with the earlier key
abbrev pub lesser_of : List Cell → List Cell → Ordering
lesser_of [] others = Greater
lesser_of (cell ∷ cells) [] = Less
lesser_of (cell ∷ cells) (other ∷ others) = key_cmp cell.0 other.0

-- a cell was put last, unless no sum of it is left
abbrev pub HasPushed : Cell → List Cell → List Cell → Type 0
HasPushed cell old new = ((cell.1 ≡ []) × (new ≡ old)) ⊎ (HasDays cell.1 × (new ≡ old ++ cell ∷ []))

-- and so were the sums of two cells
pub record HasPushedSum (first second : Cell) (old new : List Cell) : Type 0 where
  pub cell : Cell
  pub key : cell.0 ≡ first.0
  pub sums : AreSummed first.1 second.1 cell.1
  pub pushed : HasPushed cell old new
