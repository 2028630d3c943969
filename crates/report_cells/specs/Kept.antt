-- Sums that are kept while takings are read, one after another.
use Rattle.std.specs.Prelude.{ℕ, zero, suc, ◌<◌, ◌≤◌, List, [], ◌∷◌, ◌++◌, map, length, replicate, set, slice_index_or, Option, Some, None, unwrap_or, IsTrue, T}
use Rattle.std.specs.FinMap.Entries.{find, put, is_sorted}
use Rattle.hl_num.specs.Decimal.{Decimal}
use Rattle.book.specs.Accounts.{account_cmp}
use Rattle.book.specs.Entries.{held}
use Rattle.book.specs.Mixed.{added, fits_with}
use Rattle.report_cells.specs.Taken.{Shared, Taken}
use Rattle.report_cells.specs.declared.cells.CellRow.{CellRow}
use Rattle.report_cells.specs.declared.reach.Reach.{Reach}
use Rattle.report_cells.specs.declared.reach.Reach.TheVariants.{Within, UpTo}

-- kept sums of several symbols
abbrev pub Cell : Type 0
Cell = List (List ℕ × Decimal)

-- kept rows of accounts
abbrev pub KeptRows : Type 0
KeptRows = List (List ℕ × List (List (List ℕ × Decimal)))

-- the accounts rise in their order
abbrev pub AreOrdered : KeptRows → Type 0
AreOrdered rows = T (is_sorted account_cmp rows)

-- an amount has at most 36 decimals
abbrev pub HasFewPlaces : Option Shared → Type 0
HasFewPlaces None = Unit {0}
HasFewPlaces (Some share) = share.1.places ≤ 36

-- ---- one taking

-- the sums after an amount, if it is there
abbrev pub with_share : Option Shared → Cell → Cell
with_share None sums = sums
with_share (Some share) sums = added share.0 share.1 sums

-- an amount can be added
abbrev pub ShareFits : Option Shared → Cell → Type 0
ShareFits None sums = Unit {0}
ShareFits (Some share) sums = IsTrue (fits_with (held share.0 sums) share.1)

-- the sums of a column
abbrev pub cell_at : List Cell → ℕ → Cell
cell_at row at = slice_index_or row at []

-- a row after an amount in a column
abbrev pub with_placed : Option ℕ → Option Shared → List Cell → List Cell
with_placed None amount row = row
with_placed (Some at) amount row = set row at (with_share amount (cell_at row at))

-- an amount can be added in a column
abbrev pub PlacedFits : Option ℕ → Option Shared → List Cell → Type 0
PlacedFits None amount row = Unit {0}
PlacedFits (Some at) amount row = (at < length row) × ShareFits amount (cell_at row at)

-- the row of an account, so many empty columns where it has none
abbrev pub row_at : ℕ → List ℕ → KeptRows → List Cell
row_at width account rows = unwrap_or (find account_cmp account rows) (replicate width [])

-- the rows after a taking
abbrev pub row_with : ℕ → Option ℕ → Taken → KeptRows → KeptRows
row_with width at t rows = put account_cmp t.account (with_placed at t.amount (row_at width t.account rows)) rows

-- a taking can be added to its row
abbrev pub CanTake : ℕ → Option ℕ → Taken → KeptRows → Type 0
CanTake width at t rows = PlacedFits at t.amount (row_at width t.account rows)

-- ---- running sums

-- sums after each of some others
abbrev pub merged : Cell → Cell → Cell
merged sums [] = sums
merged sums (entry ∷ entries) = merged (added entry.0 entry.1 sums) entries

-- each of some sums can be added
abbrev pub MergeFits : Cell → Cell → Type 0
MergeFits sums [] = Unit {0}
MergeFits sums (entry ∷ entries) =
    IsTrue (fits_with (held entry.0 sums) entry.1) × MergeFits (added entry.0 entry.1 sums) entries

-- the sums of each column with all before it
abbrev pub running : Cell → List Cell → List Cell
running sofar [] = []
running sofar (change ∷ changes) = merged [] (merged sofar change) ∷ running (merged sofar change) changes

abbrev pub RunningFits : Cell → List Cell → Type 0
RunningFits sofar [] = Unit {0}
RunningFits sofar (change ∷ changes) =
    MergeFits sofar change × (MergeFits [] (merged sofar change) × RunningFits (merged sofar change) changes)

-- the cells of a row that has all takings
abbrev pub finished : Reach → List Cell → List Cell
finished Within row = row
finished UpTo row = running [] row

abbrev pub FinishFits : Reach → List Cell → Type 0
FinishFits Within row = Unit {0}
FinishFits UpTo row = RunningFits [] row

-- the row of an account
abbrev pub finished_row : Reach → List ℕ × List (List (List ℕ × Decimal)) → CellRow
finished_row reach row = record { account = row.0; cells = finished reach row.1 }

-- ---- totals

-- the cells of a column, row by row
abbrev pub column_of : ℕ → List CellRow → List Cell
column_of at rows = map (λ row. cell_at row.cells at) rows

-- sums after those of each of some cells
abbrev pub merged_each : Cell → List Cell → Cell
merged_each sums [] = sums
merged_each sums (cell ∷ cells) = merged_each (merged sums cell) cells

-- each of some cells can be added
abbrev pub EachFits : Cell → List Cell → Type 0
EachFits sums [] = Unit {0}
EachFits sums (cell ∷ cells) = MergeFits sums cell × EachFits (merged sums cell) cells

-- the sums of so many columns over all rows
abbrev pub column_totals : ℕ → List CellRow → List Cell
column_totals zero rows = []
column_totals (suc n) rows = column_totals n rows ++ merged_each [] (column_of n rows) ∷ []
