-- What the cells of rows hold.
use Rattle.std.specs.Prelude.{◌≡◌, ℕ, ℤ, pos, ◌≤◌, List, [], ◌∷◌, Option, Some, None, if◌then◌else◌}
use Rattle.hl_num.specs.Decimal.{Decimal, units_of}
use Rattle.hl_time.specs.declared.spans.Span.{Span}
use Rattle.book.specs.Entries.{AreSums, held}
use Rattle.live_index.specs.Rows.{places_of}
use Rattle.live_index.specs.Standing.{standing}
use Rattle.report_cells.specs.Kept.{Cell}
use Rattle.report_cells.specs.declared.cells.CellRow.{CellRow}
use Rattle.report_cells.specs.declared.reach.Reach.{Reach}
use Rattle.index_cells.specs.Days.{counted}
use Rattle.index_cells.specs.Keys.{is_in}
use Rattle.index_cells.specs.Over.{sum_over}
use Rattle.index_cells.specs.declared.kept.Kept.{Kept}

-- a number of this value, with no more decimals than given
pub record IsValue (d : Decimal) (exact : ℤ) (most : ℕ) : Type 0 where
  pub units : units_of d ≡ exact
  pub places : d.places ≤ most
  pub few : d.places ≤ 36

-- what sums hold at a symbol, where nothing stands for zero
abbrev pub HoldsValue : Option Decimal → ℤ → ℕ → Type 0
HoldsValue None exact most = exact ≡ pos 0
HoldsValue (Some d) exact most = IsValue d exact most

pub record HoldsSums (sums : Cell) (exact : List ℕ → ℤ) (most : List ℕ → ℕ) : Type 0 where
  pub ordered : AreSums sums
  pub each : (symbol : List ℕ) → HoldsValue (held symbol sums) (exact symbol) (most symbol)

-- a cell for each column
abbrev pub HoldsRow : (Span → List ℕ → ℤ) → (List ℕ → ℕ) → List Cell → List Span → Type 0
HoldsRow exact most [] [] = Unit {0}
HoldsRow exact most [] (column ∷ columns) = ⊥
HoldsRow exact most (cell ∷ cells) [] = ⊥
HoldsRow exact most (cell ∷ cells) (column ∷ columns) =
    HoldsSums cell (exact column) most × HoldsRow exact most cells columns

-- a row for each account
abbrev pub HoldsRows : (List ℕ → Span → List ℕ → ℤ) → (List ℕ → ℕ) → List Span → List CellRow → List (List ℕ) → Type 0
HoldsRows exact most columns [] [] = Unit {0}
HoldsRows exact most columns [] (account ∷ accounts) = ⊥
HoldsRows exact most columns (row ∷ rows) [] = ⊥
HoldsRows exact most columns (row ∷ rows) (account ∷ accounts) =
    (row.account ≡ account)
    × (HoldsRow (exact account) most row.cells columns × HoldsRows exact most columns rows accounts)

-- ---- what is kept, by account and column

-- the decimals that the kept amounts of a symbol have at most
abbrev pub most_of : Kept → List ℕ → ℕ
most_of kept symbol = places_of symbol (standing kept.sums)

-- the kept sum of an account in a symbol over some days
abbrev pub summed : Kept → List ℕ → Span → List ℕ → ℤ
summed kept account days symbol =
    if is_in symbol kept.symbols then sum_over (standing kept.sums) account symbol days else pos 0

-- over those days that a column counts
abbrev pub summed_in : Kept → Reach → Span → List ℕ → Span → List ℕ → ℤ
summed_in kept reach days account column = summed kept account (counted reach days column)
